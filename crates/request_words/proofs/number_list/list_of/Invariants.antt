use Rattle.std.proofs.Common.{◌≡◌, ℕ, List, map}
use Rattle.std.specs.Vec.{vec_items}
use Rattle.request_words.specs.NumberList.{all_there, entry_of, list_of}
use Rattle.request_words.proofs.NumberListLemmas.{Coming, with_front}
use Rattle.request_words.proofs.number_list.list_of.Given as goal

-- the words to come are the rest of the list
abbrev pub invariant-loop-entry : goal.invariant-loop-entry
invariant-loop-entry l =
    (goal.iterator-loop-entry).can_next l.entry-iterator × (goal.iterator-loop-entry).is_finite l.entry-iterator
    × (rest : List (List ℕ)) × Coming l.entry-iterator rest
    × (list_of l.text ≡ with_front (vec_items l.numbers) (all_there (map entry_of rest)))

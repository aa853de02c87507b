-- The answers to a request with one page and with another.
use Rattle.std.proofs.Common.{◌≡◌, ◌⊎◌, ℕ, Bool, true, false, not, List, [], ◌∷◌, ◌++◌, Option, Some, None, Result, Ok, Err}
use Rattle.std.proofs.Common.{◌≤◌, ◌<◌, inl, inr, refl, sym, subst, ap, ◌∙◌, length, take, drop, arith}
use Rattle.std.proofs.Math.Dec.{leb}
use Rattle.std.proofs.lemmas.Bool.{le-ltb, lt-ltb}
use Rattle.std.proofs.lemmas.Bool.Decides.{leb_tells}
use Rattle.std.proofs.lemmas.Grind.{flat_map-append}
use Rattle.std.proofs.lemmas.List.{append_assoc, length-drop, take-append-drop}
use Rattle.std.specs.Prelude.{MatchResult, codes, flat_map, nat_lt, if◌then◌else◌}
use Rattle.ballot_base.specs.Ballots.{Election}
use Rattle.ballot_base.specs.Lists.{later_than}
use Rattle.preflib_text.specs.Reading.{Reads}
use Rattle.preflib_text.specs.declared.fault.ReadFault.{ReadFault}
use Rattle.preflib_text.specs.declared.pick.Pick.{Pick}
use Rattle.preflib_text.proofs.ReadLemmas.{outcome_is_one}
use Rattle.request_words.specs.Request.{Request, Task, Page, electing, checking, sharing, whole, of_ballots, of_votes}
use Rattle.seat_share.specs.Faults.{share_fault}
use Rattle.seat_share.specs.declared.method.ShareFault.{ShareFault}
use Rattle.vote_cli.specs.FaultText.{fault_text}
use Rattle.vote_cli.specs.Laws.{IsCut, IsListed, IsListedBy, IsPart, IsSameRefusal, Listed, asked_for, elect_listed, front, is_listing, line_for, page_of, share_listed, with_page}
use Rattle.vote_cli.specs.Listing.{last_line, listing_text}
use Rattle.text_output.specs.Names.{naming}
use Rattle.vote_cli.specs.Parties.{has_many_approved, party_votes}
use Rattle.vote_cli.specs.Starts.{may_start}
use Rattle.text_output.specs.Text.{line}
use Rattle.vote_cli.specs.declared.status.Status.TheVariants.{InputRefused}
use Rattle.vote_cli.specs.Answer.{Answer, IsAnswer, IsAnswerOver, IsAnswerTo, answered, ballots_answer, election_answer, request_refused, refused, share_answer_by}

-- an election whose text is this one, by whether the size is too large, and whether the start fits
abbrev pub elected_by : Bool → Bool → List ℕ → Answer
elected_by low starts text = if low then request_refused (codes "SizeTooLarge") else if not starts then request_refused (codes "AfterMisfit") else answered text

-- the votes of ballots, by whether some ballot approves many
abbrev pub counted_by : Bool → Answer → Answer
counted_by many answer = if many then request_refused (codes "ManyApproved") else answer

-- a relation of two answers that holds of the same refusals
abbrev HoldsOfRefusals : (Answer → Answer → Type 0) → Type 0
HoldsOfRefusals R = (answer : Answer) → answer.text ≡ [] → R answer answer

module _ (R : Answer → Answer → Type 0) (refusals : HoldsOfRefusals R) where
  -- answers over what the bytes hold are related where those over the election that they hold are
  module _ (P Q : Election → Answer → Type 0) (pick : Pick) (bytes : List ℕ) (step : (e : Election) (a b : Answer) → Reads bytes pick (Ok e) → P e a → Q e b → R a b) where
    related_read : (read : Result Election ReadFault) (a b : Answer) → Reads bytes pick read
        → MatchResult read (λ e. P e a) (λ fault. a ≡ refused InputRefused (fault_text fault))
        → MatchResult read (λ e. Q e b) (λ fault. b ≡ refused InputRefused (fault_text fault)) → R a b
    related_read (Ok e) a b reads x y = step e a b reads x y
    related_read (Err fault) a b reads x y = subst (λ l. R l b) (sym x) (subst (R (refused InputRefused (fault_text fault))) (sym y) (refusals (refused InputRefused (fault_text fault)) refl))

    pub related_over : (a b : Answer) → IsAnswerOver P pick bytes a → IsAnswerOver Q pick bytes b → R a b
    related_over a b x y =
        related_read x.0 a b x.1 x.2
        (subst (λ read. MatchResult read (λ e. Q e b) (λ fault. b ≡ refused InputRefused (fault_text fault))) (outcome_is_one bytes pick y.0 x.0 y.1 x.1) y.2)

  -- the same of two answers that are known
  related : (a b x y : Answer) → a ≡ x → b ≡ y → R x y → R a b
  related a b x y left right h = subst (λ l. R l b) (sym left) (subst (R x) (sym right) h)

  counted : (many : Bool) (x y : Answer) → R x y → R (counted_by many x) (counted_by many y)
  counted true x y h = refusals (request_refused (codes "ManyApproved")) refl
  counted false x y h = h

-- the same refusals, or answers related by what is listed
abbrev pub Related : (Listed → Type 0) → (Listed → Answer → Answer → Type 0) → Answer → Answer → Type 0
Related IsOf R a b = IsSameRefusal a b ⊎ ((listed : Listed) × IsOf listed × R listed a b)

related_refusals : (IsOf : Listed → Type 0) (R : Listed → Answer → Answer → Type 0) → HoldsOfRefusals (Related IsOf R)
related_refusals IsOf R answer none = inl (none, refl)

-- the text of a page of what is listed
abbrev pub text_of : Listed → Page → List ℕ
text_of listed page = listing_text listed.line_of listed.header page listed.answers

-- ---- two pages of what a request lists
module _ (p q : Page) (R : Listed → Answer → Answer → Type 0) (pages : (IsOf : Listed → Type 0) (listed : Listed) → IsOf listed → Related IsOf R (page_of listed p) (page_of listed q)) where
  module _ (IsOf : Listed → Type 0) (listed : Listed) (is : IsOf listed) where
    -- answers that are pages, unless something else is refused before
    paged_by : (P : Bool → List ℕ → Answer) → ((starts : Bool) (text : List ℕ) → P starts text ≡ if starts then answered text else request_refused (codes "AfterMisfit"))
        → Related IsOf R (P (may_start listed.may_follow p.after) (text_of listed p)) (P (may_start listed.may_follow q.after) (text_of listed q))
    paged_by P same = related (Related IsOf R) (related_refusals IsOf R) _ _ _ _ (same _ _) (same _ _) (pages IsOf listed is)

    paged_election : (low : Bool) → Related IsOf R (elected_by low (may_start listed.may_follow p.after) (text_of listed p)) (elected_by low (may_start listed.may_follow q.after) (text_of listed q))
    paged_election true = inl (refl, refl)
    paged_election false = paged_by (elected_by false) same
      where
        same : (starts : Bool) (text : List ℕ) → elected_by false starts text ≡ if starts then answered text else request_refused (codes "AfterMisfit")
        same true text = refl
        same false text = refl

    paged_shares : (found : Option ShareFault)
        → Related IsOf R (share_answer_by found (may_start listed.may_follow p.after) (text_of listed p)) (share_answer_by found (may_start listed.may_follow q.after) (text_of listed q))
    paged_shares (Some fault) = inl (refl, refl)
    paged_shares None = paged_by (share_answer_by None) same
      where
        same : (starts : Bool) (text : List ℕ) → share_answer_by None starts text ≡ if starts then answered text else request_refused (codes "AfterMisfit")
        same true text = refl
        same false text = refl

  paged_to : (with_names : Bool) (task : Task) (pick : Pick) (bytes : List ℕ) (a b : Answer) → is_listing task ≡ true
      → IsAnswerTo with_names (with_page p task) pick bytes a → IsAnswerTo with_names (with_page q task) pick bytes b → Related (IsListedBy with_names task pick bytes) R a b
  paged_to with_names (of_ballots (electing rule size page)) pick bytes a b lists x y =
      let IsOf = IsListedBy with_names (of_ballots (electing rule size page)) pick bytes in
      let refusals = related_refusals IsOf R in
      related_over (Related IsOf R) refusals (λ e answer. answer ≡ election_answer rule size p with_names e) (λ e answer. answer ≡ election_answer rule size q with_names e) pick bytes
      (λ e c d reads left right. related (Related IsOf R) refusals c d _ _ left right (paged_election IsOf (elect_listed with_names rule size e) (e, reads, refl) (nat_lt e.m size)))
      a b x y
  paged_to with_names (of_ballots (checking property list)) pick bytes a b lists x y = let h : false ≡ true = lists in cc
  paged_to with_names (of_ballots (sharing method seats page)) pick bytes a b lists x y =
      let IsOf = IsListedBy with_names (of_ballots (sharing method seats page)) pick bytes in
      let refusals = related_refusals IsOf R in
      related_over (Related IsOf R) refusals (λ e answer. answer ≡ ballots_answer method seats p with_names e) (λ e answer. answer ≡ ballots_answer method seats q with_names e) pick bytes
      (λ e c d reads left right. related (Related IsOf R) refusals c d _ _ left right (counted (Related IsOf R) refusals (has_many_approved e) _ _
      (paged_shares IsOf (share_listed (naming with_names e.names) method seats (party_votes e)) (e, reads, refl) (share_fault (party_votes e) seats None))))
      a b x y
  paged_to with_names (of_votes votes method seats page) pick bytes a b lists x y =
      let IsOf = IsListedBy with_names (of_votes votes method seats page) pick bytes in
      related (Related IsOf R) (related_refusals IsOf R) a b _ _ x y (paged_shares IsOf (share_listed (naming with_names []) method seats votes) refl (share_fault votes seats None))

-- ---- a limit
abbrev unlimited : Option (List ℕ) → Page
unlimited after = record { after = after; limit = None }

abbrev up_to : Option (List ℕ) → ℕ → Page
up_to after n = record { after = after; limit = Some n }

abbrev CutOf : Option (List ℕ) → ℕ → Listed → Answer → Answer → Type 0
CutOf after n listed = IsCut listed (later_than after listed.answers) n

-- the last line tells whether answers are left out
line_for_none : (left : List (List ℕ)) → length left ≡ 0 → line_for left ≡ line (codes "end")
line_for_none [] none = refl
line_for_none (x ∷ xs) none = absurd (omega (arith, none))

line_for_some : (left : List (List ℕ)) → 0 < length left → line_for left ≡ line (codes "more")
line_for_some [] some = absurd (omega (arith, some))
line_for_some (x ∷ xs) some = refl

last_line_for : (n : ℕ) (answers : List (List ℕ)) → last_line (nat_lt n (length answers)) ≡ line_for (drop n answers)
last_line_for n answers = by (leb_tells (length answers) n)
  where
    by : ((leb (length answers) n ≡ true) × (length answers ≤ n)) ⊎ ((leb (length answers) n ≡ false) × (n < length answers))
        → last_line (nat_lt n (length answers)) ≡ line_for (drop n answers)
    by (inl few) = ap last_line (le-ltb n (length answers) few.1) ∙ sym (line_for_none (drop n answers) (omega (arith, length-drop n answers, few.1)))
    by (inr many) = ap last_line (lt-ltb n (length answers) many.1) ∙ sym (line_for_some (drop n answers) (omega (arith, length-drop n answers, many.1)))

module _ (listed : Listed) (n : ℕ) (answers : List (List ℕ)) where
  whole_front : listed.header ++ (flat_map listed.line_of answers ++ line (codes "end"))
      ≡ front listed answers n ++ flat_map listed.line_of (drop n answers) ++ line (codes "end")
  whole_front =
      let parts : flat_map listed.line_of answers ≡ flat_map listed.line_of (take n answers) ++ flat_map listed.line_of (drop n answers) =
      ap (flat_map listed.line_of) (sym (take-append-drop n answers)) ∙ flat_map-append listed.line_of (take n answers) (drop n answers) in
      sym (append_assoc listed.header (flat_map listed.line_of answers) (line (codes "end")))
      ∙ ap (λ l. l ++ line (codes "end")) (ap (λ l. listed.header ++ l) parts ∙ sym (append_assoc listed.header (flat_map listed.line_of (take n answers)) (flat_map listed.line_of (drop n answers))))

  cut_front : listed.header ++ (flat_map listed.line_of (take n answers) ++ last_line (nat_lt n (length answers)))
      ≡ front listed answers n ++ line_for (drop n answers)
  cut_front =
      ap (λ l. listed.header ++ (flat_map listed.line_of (take n answers) ++ l)) (last_line_for n answers)
      ∙ sym (append_assoc listed.header (flat_map listed.line_of (take n answers)) (line_for (drop n answers)))

cut_listed : (listed : Listed) (after : Option (List ℕ)) (n : ℕ)
    → CutOf after n listed (answered (text_of listed (unlimited after))) (answered (text_of listed (up_to after n)))
cut_listed listed after n = record {
  all_is = ap answered (whole_front listed n (later_than after listed.answers));
  cut_is = ap answered (cut_front listed n (later_than after listed.answers));
}

cut_page : (after : Option (List ℕ)) (n : ℕ) (IsOf : Listed → Type 0) (listed : Listed) → IsOf listed → Related IsOf (CutOf after n) (page_of listed (unlimited after)) (page_of listed (up_to after n))
cut_page after n IsOf listed is = by (may_start listed.may_follow after)
  where
    by : (starts : Bool) → Related IsOf (CutOf after n) (if starts then answered (text_of listed (unlimited after)) else request_refused (codes "AfterMisfit"))
        (if starts then answered (text_of listed (up_to after n)) else request_refused (codes "AfterMisfit"))
    by true = inr (listed, is, cut_listed listed after n)
    by false = inl (refl, refl)

pub limited : (asked : Request) (bytes : List ℕ) (after : Option (List ℕ)) (n : ℕ) (all cut : Answer) → is_listing asked.task ≡ true
    → IsAnswer (asked_for (unlimited after) asked) bytes all → IsAnswer (asked_for (up_to after n) asked) bytes cut
    → IsSameRefusal all cut ⊎ ((listed : Listed) × IsListed asked bytes listed × IsCut listed (later_than after listed.answers) n all cut)
limited asked bytes after n = paged_to (unlimited after) (up_to after n) (CutOf after n) (cut_page after n) asked.names asked.task asked.pick bytes

-- ---- a page
pub paged : (asked : Request) (bytes : List ℕ) (page : Page) (all part : Answer) → is_listing asked.task ≡ true
    → IsAnswer (asked_for whole asked) bytes all → IsAnswer (asked_for page asked) bytes part
    → IsSameRefusal all part ⊎ ((listed : Listed) × IsListed asked bytes listed × IsPart listed page all part)
paged asked bytes page =
    paged_to whole page (λ listed. IsPart listed page) (λ IsOf listed is. inr (listed, is, record { all_is = refl; part_is = refl })) asked.names asked.task asked.pick bytes

-- The text of the election that is listed.
use Rattle.std.specs.Prelude.{ℕ, List}
use Rattle.request_words.specs.declared.request.Rule.{Rule}
use Rattle.vote_cli.specs.ElectText.{elect_text}
use Rattle.vote_cli.specs.declared.elect_text.Listing.{Listing}

-- what is printed of the election under a rule
abbrev pub listed_text : {A : Type 0} → Listing A → Rule → List ℕ
listed_text listing rule = elect_text rule listing.size (record { after = listing.after; limit = listing.limit })
    listing.names listing.profile.now

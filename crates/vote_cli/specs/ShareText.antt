-- The text of allocations of seats.
use Rattle.std.specs.Prelude.{ℕ, List, ◌++◌, codes, decimal}
use Rattle.seat_share.specs.Allocations.{allocations}
use Rattle.seat_share.specs.Names.{method_name}
use Rattle.seat_share.specs.declared.method.Method.{Method}
use Rattle.request_words.specs.Request.{Page}
use Rattle.vote_cli.specs.Listing.{allocation_line, listing_text}
use Rattle.text_output.specs.Names.{Names}
use Rattle.text_output.specs.Text.{line}

-- the lines before the allocations: the method and the seats
abbrev pub share_header : Method → ℕ → List ℕ
share_header method seats = line (codes "method " ++ method_name method) ++ line (codes "seats " ++ decimal seats)

-- what is printed of the allocations of these seats, by a method, to parties with these votes
abbrev pub share_text : Method → ℕ → Page → Names → List ℕ → List ℕ
share_text method seats page names votes =
    listing_text (allocation_line names) (share_header method seats) page (allocations method votes seats)

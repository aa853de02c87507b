-- The limits of a file (this project's).
use Rattle.std.specs.Prelude.{ℕ, ◌^◌}

-- the maximum number of bytes in a line, without its end
abbrev pub most_line_bytes : ℕ
most_line_bytes = 1048576

-- the maximum number of categories
abbrev pub most_categories : ℕ
most_categories = 2 ^ 32

-- every number of a u64 is below this
abbrev pub word_limit : ℕ
word_limit = 2 ^ 64

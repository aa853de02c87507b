-- The exit statuses of the program.
use Rattle.std.specs.Prelude.{ℕ}
use Rattle.vote_cli.specs.declared.status.Status.{Status}
use Rattle.vote_cli.specs.declared.status.Status.TheVariants.{Answered, Violated, InputRefused}
use Rattle.vote_cli.specs.declared.status.Status.TheVariants.{RequestRefused, NoMemory, DeviceFailed}

-- the exit status; no run ends with 2, the status for a refused command line
abbrev pub code_of : Status → ℕ
code_of Answered = 0
code_of Violated = 1
code_of InputRefused = 3
code_of RequestRefused = 4
code_of NoMemory = 5
code_of DeviceFailed = 6

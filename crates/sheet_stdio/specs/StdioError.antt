-- What is said of an error by the stream that failed.
use Rattle.sheet_stdio.specs.declared.StdioError.{StdioError}
use Rattle.sheet_stdio.specs.declared.StdioError.TheVariants.{Input, Output}

-- a fact for a failed read
abbrev pub OnInput : StdioError → Type 0 → Type 0
OnInput (Input error) P = P
OnInput (Output error) P = Unit {0}

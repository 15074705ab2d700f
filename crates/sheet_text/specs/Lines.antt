-- The lines of the bench sheet, as bytes: SPECIFICATION, "Sheet".
use Rattle.std.specs.Prelude.{ℕ, if◌then◌else◌, List, ◌++◌, codes, decimal}
use Rattle.std.specs.Fmt.{signed_decimal}
use Rattle.std.specs.List.{flat_map}
use Rattle.lists.specs.Joined.{concat_from}
use Rattle.refusal.specs.Table.{refusal_text}
use Rattle.cycle.specs.Silence.{is_heard}
use Rattle.cycle.specs.Step.{drift}
use Rattle.shape.specs.declared.Shape.{Shape}
use Rattle.shape.specs.Rules.{row_of}

-- every line ends in a line feed
abbrev pub line_end : List ℕ
line_end = codes "\n"

-- the line of a refusal: its number and its place
abbrev pub refusal_line : ℕ → ℕ → List ℕ
refusal_line number place = refusal_text number place ++ line_end

-- the first line: cycle, rows, columns, mask rows and mask columns
abbrev pub head_line : Shape → List ℕ
head_line s =
    codes "cycle " ++ decimal s.cycle ++ codes " rows " ++ decimal s.rows ++ codes " columns "
    ++ decimal s.columns
    ++ codes " mask " ++ decimal s.mask_rows ++ codes " " ++ decimal s.mask_columns ++ line_end

-- a phase: its number, or `-` if it is silent
unfoldable pub phase_word : ℕ → List ℕ
phase_word p = if is_heard p then decimal p else codes "-"

-- each phase behind a space
abbrev pub phase_words : List ℕ → List ℕ
phase_words = flat_map (λ p. codes " " ++ phase_word p)

-- the line of row i: its index, its phases and their drift
abbrev pub row_line : ℕ → ℕ → List ℕ → List ℕ
row_line c i phases =
    codes "row " ++ decimal i ++ codes ":" ++ phase_words phases ++ codes " drift "
    ++ signed_decimal (drift c phases) ++ line_end

-- the lines of a filtered image: the first line, and one for each row
unfoldable pub image_lines : Shape → List ℕ → List ℕ
image_lines s phases =
    head_line s ++ concat_from (λ i. row_line s.cycle i (row_of s.columns phases i)) 0 s.rows

-- no sheet has more bytes (`sheet_fits`)
abbrev pub most_text : ℕ
most_text = 65536

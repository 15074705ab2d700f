-- Numbers and fields as bytes, each a number below 256: SPECIFICATION, "Fields".
use Rattle.std.specs.Prelude.{ℕ, ◌+◌, ◌*◌, ◌/◌, ◌%◌, ◌<◌, List, [], ◌∷◌, ◌++◌, length, slice_index}
use Rattle.lists.specs.Tabulate.{tabulate}
use Rattle.record_format.specs.declared.Tag.{Tag}
use Rattle.record_format.specs.declared.Tag.TheVariants.{Cycle, Size, Mask, Row, End}
use Rattle.record_format.specs.Layout.{numbers_length}

-- each element is a byte; past the end of a list, 0 is read
unfoldable pub AreBytes : List ℕ → Type 0
AreBytes bytes = (k : ℕ) → slice_index bytes k < 256

-- the tag of each field
abbrev pub tag_byte : Tag → ℕ
tag_byte Cycle = 0x01
tag_byte Size = 0x02
tag_byte Mask = 0x03
tag_byte Row = 0x04
tag_byte End = 0xFF

-- a number as it is written: its high byte, then its low byte
unfoldable pub number : ℕ → List ℕ
number x = x / 256 ∷ x % 256 ∷ []

-- numbers one after the other
unfoldable pub numbers : List ℕ → List ℕ
numbers [] = []
numbers (x ∷ xs) = number x ++ numbers xs

-- a field: its tag, the length of its body in bytes, and the body
unfoldable pub field : Tag → List ℕ → List ℕ
field tag body = tag_byte tag ∷ (number (length body) ++ body)

-- the number that is read at an offset
unfoldable pub number_at : List ℕ → ℕ → ℕ
number_at bytes at = slice_index bytes at * 256 + slice_index bytes (at + 1)

-- n numbers that are read from an offset on
unfoldable pub numbers_at : List ℕ → ℕ → ℕ → List ℕ
numbers_at bytes at n = tabulate (λ k. number_at bytes (at + numbers_length k)) 0 n

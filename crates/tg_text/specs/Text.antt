-- The text of parts.
use Rattle.std.specs.Prelude.{◌≡◌, ℕ, ◌<◌, List, [], ◌∷◌, ◌++◌, length, take, decimal}
use Rattle.tg_text.specs.declared.Part.{Part}
use Rattle.tg_text.specs.declared.Part.TheVariants.{Text, Number}

abbrev pub part_text : Part → List ℕ
part_text (Text bytes) = bytes.now
part_text (Number number) = decimal number

-- the texts of the parts, one after another
abbrev pub text_of : List Part → List ℕ
text_of [] = []
text_of (part ∷ parts) = part_text part ++ text_of parts

-- `new` is `old` and then the texts of the first parts, not of all
abbrev pub AppendsSome : List ℕ → List Part → List ℕ → Type 0
AppendsSome old parts new = (k : ℕ) × (k < length parts) × (new ≡ old ++ text_of (take k parts))

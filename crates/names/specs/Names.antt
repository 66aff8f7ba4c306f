-- What names stand for.
use Rattle.std.specs.Prelude.{ℕ, List}
use Rattle.bounded.specs.View.{list_of}
use Rattle.names.specs.declared.name.Text.{Text}

-- the bytes of a text
abbrev pub text_of : {n : ℕ} → Text n → List ℕ
text_of t = list_of t.bytes

-- a part of a name
abbrev pub Name : Type 0
Name = Text 32

-- a column's name with the parts of its reference
abbrev pub FullName : Type 0
FullName = Text 131

-- the bytes of a full name, which holds 131
abbrev pub full_text_of : FullName → List ℕ
full_text_of n = text_of n

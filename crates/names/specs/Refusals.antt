-- The refusals: their numbers and words, and what it means that a call answers or refuses.
use Rattle.std.specs.Prelude.{◌≡◌, ℕ, Bool, cond, List, length, Some, None, codes, Option, Result, MatchResult, nat_lt}
use Rattle.names.specs.declared.error.Refusal.{Refusal}
use Rattle.names.specs.declared.error.Refusal.TheVariants.{Standing, Oversize, Overrun, NoColumn, Schema, SameText, EmptyKey, WrongKind, ShortCells, BrokenKey, Crowded, LongWalk, NoRow}
use Rattle.names.specs.declared.error.SchemaError.{SchemaError}
use Rattle.names.specs.declared.error.SchemaError.TheVariants.{DuplicateQualifiedField, DuplicateUnqualifiedField, AmbiguousReference, FieldNotFound}

abbrev pub schema_number : SchemaError → ℕ
schema_number (AmbiguousReference c) = 7
schema_number (DuplicateQualifiedField q n) = 5
schema_number (DuplicateUnqualifiedField n) = 6
schema_number (FieldNotFound c) = 8

abbrev pub number_of : Refusal → ℕ
number_of Standing = 1
number_of Oversize = 2
number_of Overrun = 3
number_of NoColumn = 4
number_of (Schema e) = schema_number e
number_of SameText = 9
number_of EmptyKey = 10
number_of WrongKind = 11
number_of ShortCells = 12
number_of BrokenKey = 13
number_of Crowded = 14
number_of LongWalk = 15
number_of NoRow = 16

abbrev pub schema_word : SchemaError → List ℕ
schema_word (AmbiguousReference c) = codes "ambiguous"
schema_word (DuplicateQualifiedField q n) = codes "twice qualified"
schema_word (DuplicateUnqualifiedField n) = codes "twice unqualified"
schema_word (FieldNotFound c) = codes "unknown"

abbrev pub word_of : Refusal → List ℕ
word_of Standing = codes "standing"
word_of Oversize = codes "oversize"
word_of Overrun = codes "overrun"
word_of NoColumn = codes "no column"
word_of (Schema e) = schema_word e
word_of SameText = codes "same text"
word_of EmptyKey = codes "empty key"
word_of WrongKind = codes "wrong kind"
word_of ShortCells = codes "short cells"
word_of BrokenKey = codes "broken key"
word_of Crowded = codes "crowded"
word_of LongWalk = codes "long walk"
word_of NoRow = codes "no row"

-- the refusal where the test holds, and else what comes next
abbrev pub refused_if : Bool → Refusal → Option Refusal → Option Refusal
refused_if b e rest = cond b (Some e) rest

-- a list of more than n entries is oversize
abbrev pub oversize_over : {X : Type 0} → ℕ → List X → Option Refusal
oversize_over n xs = refused_if (nat_lt n (length xs)) Oversize None

-- the call gives that refusal where there is one, and else a value of which P holds
abbrev pub Answers : {A : Type 0} → Result A Refusal → Option Refusal → (A → Type 0) → Type 0
Answers r refusal P = MatchResult r (λ v. (refusal ≡ None) × P v) (λ e. refusal ≡ Some e)

-- the same of a call that changes a record, which is kept where the call refuses
abbrev pub AnswersOr : {A : Type 0} → Result A Refusal → Option Refusal → (A → Type 0) → Type 0 → Type 0
AnswersOr r refusal P Unchanged = MatchResult r (λ v. (refusal ≡ None) × P v) (λ e. (refusal ≡ Some e) × Unchanged)

-- What the reader's workers ask and answer.
-- Assumes nothing.
use Rattle.std.specs.Prelude.{ℕ, ◌+◌, ◌≤◌, ◌≡◌, ◌≢◌, ◌⊎◌, Bool, true, List, [], ◌++◌, length, drop, Option, Result, MatchOption, MatchResult}
use Rattle.number.specs.Questions.{filled}
use Rattle.number.specs.declared.refusal.Refusal.{Refusal}
use Rattle.number.specs.declared.refusal.Refusal.TheVariants.{FieldCutShort, UnknownTag, PayloadCut}
use Rattle.number.specs.Refusal.{refusal_number}
use Rattle.record.specs.Record.{Fields, end, head_cut, payload_cut, whole, fields_of, field_no, fields_no, densities, name_of}
use Rattle.record.specs.declared.field.Field.{Field}
use Rattle.record.specs.declared.questions.Tag.{Tag}
use Rattle.record.specs.declared.questions.Tag.TheVariants.{Name, Densities}
use Rattle.record.specs.declared.ChartRecord.{ChartRecord}

-- some bytes begin with the whole field f, after which `rest` stands
pub record Begins (bytes : List ℕ) (f : Field) (rest : List ℕ) : Type 0 where
  pub fields : fields_of bytes ≡ whole f.tag f.payload.now (fields_of rest)
  pub sizes : 3 + length f.payload.now + length rest ≡ length bytes
  pub places : f.payload.now ++ rest ≡ drop 3 bytes

-- some fields begin with a cut one, which is refused by e
abbrev pub IsCut : Fields → Refusal → Type 0
IsCut fs e = ((fs ≡ head_cut) × (e ≡ FieldCutShort)) ⊎ ((fs ≡ payload_cut) × (e ≡ PayloadCut))

-- next: the first field of some bytes, and the bytes that are left; nothing is left after a cut field
abbrev pub NextField : List ℕ → Option (Result Field Refusal) → List ℕ → Type 0
NextField bytes r rest =
    MatchOption r ((fields_of bytes ≡ end) × (rest ≡ []))
    (λ field. MatchResult field (λ f. Begins bytes f rest) (λ e. IsCut (fields_of bytes) e × (rest ≡ [])))

-- the number of a tag
abbrev pub tag_number : Tag → ℕ
tag_number Name = 1
tag_number Densities = 2

-- the tag with the number n; other numbers than 1 and 2 have none
abbrev pub TagOf : ℕ → Result Tag Refusal → Type 0
TagOf n r = MatchResult r (λ t. tag_number t ≡ n) (λ e. (n ≢ 1) × (n ≢ 2) × (e ≡ UnknownTag))

-- check_field: a whole field's tag, or the refusal by its first no
abbrev pub AcceptedField : Bool → Field → Result Tag Refusal → Type 0
AcceptedField first f r =
    let no = field_no first f.tag f.payload.now in
    MatchResult r (λ t. (no ≡ 0) × (tag_number t ≡ f.tag)) (λ e. no ≡ refusal_number e)

-- check_fields: how many densities the fields of a record have, and where the name stands, or the refusal by the first no
abbrev pub CheckedFields : List ℕ → Result ChartRecord Refusal → Type 0
CheckedFields bytes r =
    let fields = fields_of bytes in
    let no = fields_no true fields in
    MatchResult r
    (λ k. (no ≡ 0) × (k ≡ record { measures = length (densities fields); name_start = 3; name_length = length (name_of fields) }))
    (λ e. no ≡ refusal_number e)

-- what place_densities asks: room for all densities
pub record RoomForAll (bytes old : List ℕ) : Type 0 where
  pub fits : length (densities (fields_of bytes)) ≤ length old

-- what it promises: they stand at the slice's start
pub record AllPlaced (bytes old new : List ℕ) : Type 0 where
  pub placed : new ≡ filled old (densities (fields_of bytes))

-- Chart record: its fields, and the questions put to it.
-- Assumes nothing.
use Rattle.std.specs.Prelude.{ℕ, zero, suc, ◌+◌, ◌*◌, Bool, true, false, cond, not, ◌&&◌, ◌||◌, List, [], ◌∷◌, ◌++◌, leb, eqb, length, take, drop}
use Rattle.number.specs.Questions.{question, first_no, accepted}
use Rattle.rules.specs.Chart.{densities_no}

-- the fields of a record: nothing left, a field with fewer than three head bytes, one whose payload is shorter than its length says, or a whole
-- field (tag, payload) and what follows it
pub data Fields : Type 0 where
  end : Fields
  head_cut : Fields
  payload_cut : Fields
  whole : ℕ → List ℕ → Fields → Fields

-- the fields of at most k bytes: a one-byte tag, a two-byte length (high byte first) and so many bytes
abbrev pub fields_in : ℕ → List ℕ → Fields
fields_in zero bytes = end
fields_in (suc k) [] = end
fields_in (suc k) (tag ∷ []) = head_cut
fields_in (suc k) (tag ∷ high ∷ []) = head_cut
fields_in (suc k) (tag ∷ high ∷ low ∷ bytes) =
    let n = 256 * high + low in
    let field = whole tag (take n bytes) (fields_in k (drop n bytes)) in
    cond (leb n (length bytes)) field payload_cut

-- Chart record: its fields
unfoldable pub fields_of : List ℕ → Fields
fields_of bytes = fields_in (length bytes) bytes

-- the densities of a payload, by its tag: of tag 02 a byte each, of any other none
abbrev pub densities_of : ℕ → List ℕ → List ℕ
densities_of tag payload = cond (eqb tag 2) payload []

-- Densities: those of all whole fields, end to end
abbrev pub densities : Fields → List ℕ
densities end = []
densities head_cut = []
densities payload_cut = []
densities (whole tag payload fs) = densities_of tag payload ++ densities fs

-- Name: the payload of the first field if that is of tag 01, else nothing
abbrev pub name_of : Fields → List ℕ
name_of end = []
name_of head_cut = []
name_of payload_cut = []
name_of (whole tag payload fs) = cond (eqb tag 1) payload []

-- all bytes from 20 to 7E
abbrev pub printable : List ℕ → Bool
printable [] = true
printable (b ∷ bytes) = leb 32 b && leb b 126 && printable bytes

-- 1 to 64 bytes from 20 to 7E
abbrev pub is_name : List ℕ → Bool
is_name payload = leb 1 (length payload) && leb (length payload) 64 && printable payload

-- a whole field's questions. Tag 01 or 02? 9. A name as first field and nowhere else? 10. A name of 1 to 64 bytes from 20 to 7E? 11
unfoldable pub field_no : Bool → ℕ → List ℕ → ℕ
field_no first tag payload =
    let name = eqb tag 1 in
    first_no (question 9 (name || eqb tag 2) ∷ question 10 (cond first name (not name)) ∷ question 11 (cond name (is_name payload) true) ∷ [])

-- field by field. Three head bytes present? 8. The whole payload present? 17. Then the questions of a whole field. An empty file answers no to 10
abbrev pub fields_no : Bool → Fields → ℕ
fields_no first end = cond first 10 0
fields_no first head_cut = 8
fields_no first payload_cut = 17
fields_no first (whole tag payload fs) =
    let no = field_no first tag payload in
    accepted no (fields_no false fs) no

-- the first no to a record, for which the density slice `old` is lent: of its fields, then of its densities
unfoldable pub record_no : List ℕ → List ℕ → ℕ
record_no bytes old =
    let no = fields_no true (fields_of bytes) in
    accepted no (densities_no (densities (fields_of bytes)) old) no

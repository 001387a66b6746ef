-- The two spellings that are written: the canonical one, of indeterminate length, and the one of known length.
-- Both have least widths and lower case, leave out nothing, and have no padding.
use Rattle.std.specs.Prelude.{ℕ, zero, suc, ◌≤◌, List, [], ◌∷◌, ◌++◌, length, take, drop, All, Some, None, flat_map}
use Rattle.bh_spec.specs.declared.Form.{Form}
use Rattle.bh_spec.specs.declared.Form.TheVariants.{Known, Indeterminate}
use Rattle.bh_spec.specs.Integers.{int}
use Rattle.bh_spec.specs.Bounds.{Bounds, IsWithin}
use Rattle.bh_spec.specs.Messages.{Field, Control, Interim, Start, request, response, Message, kind_of}
use Rattle.bh_spec.specs.Spelling.{framing}

-- a length and the bytes
abbrev pub string : List ℕ → List ℕ
string bytes = int (length bytes) ++ bytes

abbrev pub line : Field → List ℕ
line field = string field.name ++ string field.value

abbrev pub lines : List Field → List ℕ
lines fields = flat_map line fields

abbrev pub section : Form → List Field → List ℕ
section Known fields = int (length (lines fields)) ++ lines fields
section Indeterminate fields = lines fields ++ int 0

-- the bytes in pieces of this size and a shorter last one, in at most so many turns
abbrev pub cut_within : ℕ → ℕ → List ℕ → List (List ℕ)
cut_within zero size bytes = []
cut_within (suc turns) size [] = []
cut_within (suc turns) size (byte ∷ rest) = take size (byte ∷ rest) ∷ cut_within turns size (drop size (byte ∷ rest))

-- in pieces of this size and a shorter last one
abbrev pub cut : ℕ → List ℕ → List (List ℕ)
cut size bytes = cut_within (length bytes) size bytes

-- canonical content stands in chunks of 8,192 bytes and a shorter last one
abbrev pub spelled_content : Form → List ℕ → List ℕ
spelled_content Known content = string content
spelled_content Indeterminate content = flat_map string (cut 8192 content) ++ int 0

abbrev pub interim : Form → Interim → List ℕ
interim form i = int i.status ++ section form i.fields

abbrev pub start : Form → Start → List ℕ
start form (request c) = string c.method ++ (string c.scheme ++ (string c.authority ++ string c.path))
start form (response interims status) = flat_map (interim form) interims ++ int status

abbrev pub spelling : Form → Message → List ℕ
spelling form m = int (framing (kind_of m.start) form)
    ++ (start form m.start ++ (section form m.fields ++ (spelled_content form m.content ++ section form m.trailers)))

-- the canonical text: of indeterminate length
abbrev pub canon : Message → List ℕ
canon m = spelling Indeterminate m

-- the known-length text
abbrev pub known : Message → List ℕ
known m = spelling Known m

-- What the limits say of fields, of the start, and of a message.
pub record FieldsFit (L : Bounds) (fields : List Field) : Type 0 where
  pub names : All (λ field. IsWithin L.part (length field.name)) fields
  pub values : All (λ field. IsWithin L.part (length field.value)) fields
  pub total : IsWithin L.section (length (lines fields))

pub record ControlFits (L : Bounds) (c : Control) : Type 0 where
  pub method : IsWithin L.part (length c.method)
  pub scheme : IsWithin L.part (length c.scheme)
  pub authority : IsWithin L.part (length c.authority)
  pub path : IsWithin L.part (length c.path)

abbrev pub StartFits : Bounds → Start → Type 0
StartFits L (request c) = ControlFits L c
StartFits L (response interims status) = IsWithin L.interims (length interims) × All (λ i. FieldsFit L i.fields) interims

pub record Fits (L : Bounds) (m : Message) : Type 0 where
  pub start : StartFits L m.start
  pub fields : FieldsFit L m.fields
  pub trailers : FieldsFit L m.trailers

-- the greatest number that an integer can hold
abbrev pub greatest : ℕ
greatest = 0x3fff_ffff_ffff_ffff

abbrev pub integers : Bounds
integers = record { part = Some greatest; section = Some greatest; interims = None; input = None }

-- Every length in either spelling can be written as an integer.
pub record IsWritable (m : Message) : Type 0 where
  pub fits : Fits integers m
  pub content : length m.content ≤ greatest

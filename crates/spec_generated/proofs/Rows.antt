-- What is made from the seed 7, and sums of what is made from three seeds. The values were computed apart from the definitions.
use Rattle.std.specs.Prelude.{◌≡◌, ℕ, ◌+◌, ◌*◌, ◌%◌, Bool, true, false, ℤ, pos, negsuc, List, [], ◌∷◌, length, map}
use Rattle.std.specs.Prelude.{fold, count_by, flat_map, slice_get, slice_index_or, Some, None, refl}
use Rattle.spec_document.specs.declared.Mode.TheVariants.{Normal, Multiply, Screen, Addition, SoftLight}
use Rattle.spec_document.specs.Forest.{none, leaf, ids}
use Rattle.spec_document.specs.Document.{Document}
use Rattle.spec_document.proofs.Samples.{layer_of, canvas}
use Rattle.spec_document.specs.Picture.{picture_bytes}
use Rattle.spec_edit.specs.Edit as edits
use Rattle.spec_edit.specs.Edit.{Edit}
use Rattle.spec_history.specs.Machine as machine
use Rattle.spec_script.specs.Script.{Line, call, save, is_call}
use Rattle.spec_generated.specs.Draws.{draw, next_state}
use Rattle.spec_generated.specs.Summary.{outcome}
use Rattle.spec_generated.specs.Generated.{plain_group, in_two_groups, all, parts_of, script}

first_state : next_state 7 ≡ 1025555898
first_state = refl

first_draw : draw 512 7 ≡ record { what = 288; state = 1025555898 }
first_draw = refl

-- ---- the layers

looks : (parts_of 7).looks ≡
    record { x = 288; y = 346; mode = Normal; opacity = 206; pixel = 161 ∷ 20 ∷ 105 ∷ 152 ∷ [] }
    ∷ record { x = 411; y = 355; mode = Addition; opacity = 128; pixel = 172 ∷ 63 ∷ 227 ∷ 4 ∷ [] }
    ∷ record { x = 417; y = 135; mode = Multiply; opacity = 166; pixel = 202 ∷ 68 ∷ 137 ∷ 199 ∷ [] }
    ∷ record { x = 398; y = 45; mode = Multiply; opacity = 212; pixel = 63 ∷ 108 ∷ 209 ∷ 166 ∷ [] }
    ∷ record { x = 304; y = 32; mode = Addition; opacity = 164; pixel = 6 ∷ 37 ∷ 6 ∷ 43 ∷ [] }
    ∷ record { x = 77; y = 145; mode = SoftLight; opacity = 177; pixel = 76 ∷ 127 ∷ 199 ∷ 37 ∷ [] }
    ∷ record { x = 282; y = 17; mode = Multiply; opacity = 154; pixel = 242 ∷ 176 ∷ 134 ∷ 38 ∷ [] }
    ∷ record { x = 197; y = 23; mode = Screen; opacity = 134; pixel = 15 ∷ 145 ∷ 10 ∷ 3 ∷ [] }
    ∷ []
looks = refl

order : ids (in_two_groups plain_group (parts_of 7).looks) ≡ 1 ∷ 2 ∷ 3 ∷ 4 ∷ 5 ∷ 6 ∷ 7 ∷ 8 ∷ 9 ∷ 10 ∷ []
order = refl

-- ---- the script

abbrev session : ℕ → List Line
session s = slice_index_or (script 7) s []

first_fill : slice_get (session 0) 0
    ≡ Some (call (machine.edit None (edits.fill 2 (record { x = pos 236; y = pos 256; w = 17; h = 27 }) (108 ∷ 32 ∷ 237 ∷ 88 ∷ [])
    ∷ [])))
first_fill = refl

last_fill : slice_get (session 7) 97
    ≡ Some (call (machine.edit None (edits.fill 10 (record { x = pos 162; y = pos 308; w = 30; h = 47 }) (3 ∷ 182 ∷ 254 ∷ 214 ∷ [])
    ∷ [])))
last_fill = refl

first_tile : slice_get (session 0) 32 ≡ Some (call (machine.tile 0 (record { col = 4; row = 7 })))
first_tile = refl

last_tile : slice_get (session 7) 98 ≡ Some (call (machine.tile 0 (record { col = 13; row = 6 })))
last_tile = refl

last_line : slice_get (session 7) 99 ≡ Some save
last_line = refl

-- how many calls there are, how many entries, and how many versions when all are done
abbrev is_save : Line → Bool
is_save save = true
is_save line = false

abbrev is_edit : Line → Bool
is_edit (call (machine.edit guard es)) = true
is_edit line = false

abbrev lines : List Line
lines = flat_map (λ list. list) (script 7)

calls : map length (script 7) ≡ 100 ∷ 100 ∷ 100 ∷ 100 ∷ 100 ∷ 100 ∷ 100 ∷ 100 ∷ []
calls = refl

all_calls : count_by is_call lines ≡ 800
all_calls = refl

entries : count_by is_call lines + count_by is_save lines ≡ 808
entries = refl

versions : count_by is_edit lines ≡ 768
versions = refl

-- the numbers of all lines of a session, summed up so that each one and its place count
abbrev natural : ℤ → ℕ
natural (pos n) = n
natural (negsuc n) = 0

abbrev edit_numbers : Edit → List ℕ
edit_numbers (edits.fill id r pixel) = id ∷ natural r.x ∷ natural r.y ∷ r.w ∷ r.h ∷ pixel
edit_numbers edit = []

abbrev line_numbers : Line → List ℕ
line_numbers (call (machine.edit guard es)) = flat_map edit_numbers es
line_numbers (call (machine.tile stack at)) = at.col ∷ at.row ∷ []
line_numbers line = []

abbrev sum_of : List Line → ℕ
sum_of lines = fold (λ sum n. (31 * sum + n) % 1000003) 0 (flat_map line_numbers lines)

sums_of_7 : map sum_of (script 7) ≡ 764247 ∷ 422830 ∷ 422602 ∷ 664657 ∷ 663988 ∷ 805532 ∷ 701446 ∷ 512507 ∷ []
sums_of_7 = refl

sums_of_0 : map sum_of (script 0) ≡ 804943 ∷ 485641 ∷ 346023 ∷ 499024 ∷ 848220 ∷ 270327 ∷ 119172 ∷ 337606 ∷ []
sums_of_0 = refl

sums_of_last : map sum_of (script 4294967295) ≡ 338893 ∷ 809159 ∷ 751236 ∷ 110673 ∷ 327557 ∷ 608380 ∷ 525153 ∷ 119018 ∷ []
sums_of_last = refl

last_state : (all 7).state ≡ 4052937335
last_state = refl

-- the document after the calls of two sessions, the second one's fill last, and the tile between changes nothing
abbrev tiny : Document
tiny = canvas 1 1 (leaf 1 (layer_of (record { width = 1; height = 1; bpp = 4; bytes = 0 ∷ 0 ∷ 0 ∷ 0 ∷ [] })) none)

abbrev fills_tiny : List ℕ → Line
fills_tiny colour = call (machine.edit None (edits.fill 1 (record { x = pos 0; y = pos 0; w = 1; h = 1 }) colour ∷ []))

last_fill_stands : picture_bytes (outcome tiny ((fills_tiny (1 ∷ 2 ∷ 3 ∷ 4 ∷ []) ∷ save ∷ [])
    ∷ (call (machine.tile 0 (record { col = 0; row = 0 })) ∷ fills_tiny (5 ∷ 6 ∷ 7 ∷ 255 ∷ []) ∷ []) ∷ [])) 0 0 0 1 1
    ≡ 5 ∷ 6 ∷ 7 ∷ 255 ∷ []
last_fill_stands = refl

-- What the words of a line ask for is within the limits.
use Rattle.std.proofs.Common.{◌≡◌, ℕ, ◌+◌, ◌-◌, ◌<◌, ◌≤◌, Bool, true, false, cond, ◌&&◌, ◌==◌, nat_lt, nat_le, List}
use Rattle.std.proofs.Common.{[], ◌∷◌, length, refl, arith}
use Rattle.std.specs.Prelude.{Option, Some, None, IfSome, option_map, ◌/◌, ◌%◌}
use Rattle.std.proofs.lemmas.Bool.{and_parts, leb-true, ltb-true, eqb-true}
use Rattle.std.proofs.lemmas.Nat.{div-add-mod'}
use Rattle.spec_document.specs.declared.Rect.{Rect}
use Rattle.spec_document.specs.declared.TileAt.{TileAt}
use Rattle.spec_document.specs.Limits.{AreBytes, IsSide}
use Rattle.spec_edit.specs.Edit as edits
use Rattle.spec_edit.specs.Edit.{Edit, IsEdit}
use Rattle.spec_history.specs.Machine as machine
use Rattle.spec_history.specs.Machine.{Call}
use Rattle.spec_script.specs.Words.{◌>>=◌, if_holds, plain_number, number_below, number, hex_digit, hex_bytes, hex}
use Rattle.spec_script.specs.Words.{is_digit, flag, coordinate, rect, spot, offset, side, size, none, number_or_none}
use Rattle.spec_script.specs.Words.{one, two, three, five, six, eight}
use Rattle.spec_script.specs.Commands.{Command, an_edit, begins, ends, a_call, saves, forgets, Rule, edit_of}
use Rattle.spec_script.specs.Commands.{fill_rule, write_rule, filter_rule, copy_rule, fill_byte_rule, byte_rule}
use Rattle.spec_script.specs.Commands.{number_rule, flag_rule, one_rule, rect_byte_rule, offset_rule, rename_rule}
use Rattle.spec_script.specs.Commands.{new_layer_rule, new_group_rule, restack_rule, name_rule, are_colours}
use Rattle.spec_script.specs.Commands.{colours_rule, alone, optional_rule, tile_rule, forget_rule}
use Rattle.spec_document.specs.declared.TheConstants.{MAX_SIDE}

-- a call with a line of its own, which a group of edits has not
abbrev pub IsOwnCall : Call → Type 0
IsOwnCall (machine.edit guard es) = ⊥
IsOwnCall (machine.undo named) = Unit {0}
IsOwnCall machine.redo = Unit {0}
IsOwnCall (machine.tile stack at) = Unit {0}
IsOwnCall (machine.peek stack at) = Unit {0}
IsOwnCall machine.top = Unit {0}

abbrev pub IsCommand : Command → Type 0
IsCommand (an_edit e) = IsEdit e
IsCommand (begins guard) = Unit {0}
IsCommand ends = Unit {0}
IsCommand (a_call c) = IsOwnCall c
IsCommand saves = Unit {0}
IsCommand (forgets slot) = Unit {0}

-- ---- values

pub if-then : {A B : Type 0} (Q : A → Type 0) (P : B → Type 0) (o : Option A) (f : A → Option B) → IfSome o Q
    → ((x : A) → Q x → IfSome (f x) P) → IfSome (o >>= f) P
if-then Q P None f h g = tt
if-then Q P (Some x) f h g = g x h

pub if-any : {A B : Type 0} (P : B → Type 0) (o : Option A) (f : A → Option B) → ((x : A) → IfSome (f x) P) → IfSome (o >>= f) P
if-any P None f g = tt
if-any P (Some x) f g = g x

pub if-test : {A : Type 0} (P : A → Type 0) (b : Bool) (x : A) → (b ≡ true → P x) → IfSome (if_holds b x) P
if-test P true x g = g refl
if-test P false x g = tt

below : (limit : ℕ) (word : List ℕ) → IfSome (number_below limit word) (λ n. n < limit)
below limit word = if-any (λ n. n < limit) (plain_number word) (λ n. if_holds (nat_lt n limit) n)
    (λ n. if-test (λ m. m < limit) (nat_lt n limit) n (λ e. ltb-true n limit e))

byte : (word : List ℕ) → IfSome (number_below 256 word) (λ n. n ≤ 255)
byte word = if-any (λ n. n ≤ 255) (plain_number word) (λ n. if_holds (nat_lt n 256) n)
    (λ n. if-test (λ m. m ≤ 255) (nat_lt n 256) n (λ e. let l = ltb-true n 256 e in omega arith))

digit-below : (b : ℕ) → IfSome (hex_digit b) (λ d. d < 16)
digit-below b = go (is_digit b) (nat_le 97 b && nat_le b 102) (nat_le 65 b && nat_le b 70) refl refl refl
  where
    go : (x y z : Bool) → is_digit b ≡ x → (nat_le 97 b && nat_le b 102) ≡ y → (nat_le 65 b && nat_le b 70) ≡ z
        → IfSome (cond x (Some (b - 48)) (cond y (Some (b - 87)) (cond z (Some (b - 55)) None))) (λ d. d < 16)
    go true y z e f g = let l = leb-true b 57 (and_parts (nat_le 48 b) (nat_le b 57) e).1 in omega arith
    go false true z e f g = let l = leb-true b 102 (and_parts (nat_le 97 b) (nat_le b 102) f).1 in omega arith
    go false false true e f g = let l = leb-true b 70 (and_parts (nat_le 65 b) (nat_le b 70) g).1 in omega arith
    go false false false e f g = tt

hex_bytes-are : (digits : List ℕ) → IfSome (hex_bytes digits) AreBytes
hex_bytes-are [] = tt
hex_bytes-are (a ∷ []) = tt
hex_bytes-are (a ∷ b ∷ digits) =
    let rest = hex_bytes-are digits in
    if-then (λ d. d < 16) AreBytes (hex_digit a) _ (digit-below a) (λ high h.
    if-then (λ d. d < 16) AreBytes (hex_digit b) _ (digit-below b) (λ low l.
    if-then AreBytes AreBytes (hex_bytes digits) _ rest (λ bytes all. (omega (arith, h, l), all))))

hex-are : (word : List ℕ) → IfSome (hex word) AreBytes
hex-are [] = tt
hex-are (b ∷ []) = if-test AreBytes (b == 45) [] (λ e. tt)
hex-are (b ∷ c ∷ digits) = hex_bytes-are (b ∷ c ∷ digits)

side-is : (word : List ℕ) → IfSome (side word) IsSide
side-is word =
    if-then (λ n. n < MAX_SIDE + 1) IsSide (number_below (MAX_SIDE + 1) word) (λ n. if_holds (nat_le 1 n) n)
    (below (MAX_SIDE + 1) word) (λ n l.
    if-test IsSide (nat_le 1 n) n (λ e. (leb-true 1 n e, omega (arith, l))))

abbrev AreSides : ℕ × ℕ → Type 0
AreSides sides = IsSide sides.0 × IsSide sides.1

size-is : (w h : List ℕ) → IfSome (size w h) AreSides
size-is w h =
    if-then IsSide AreSides (side w) _ (side-is w) (λ width is_width.
    if-then IsSide AreSides (side h) _ (side-is h) (λ height is_height. (is_width, is_height)))

-- ---- the rules of the keywords

abbrev pub Keeps : Rule → Type 0
Keeps rule = (words : List (List ℕ)) → IfSome (rule words) IsCommand

edit-of : (o : Option Edit) → IfSome o IsEdit → IfSome (edit_of o) IsCommand
edit-of None h = tt
edit-of (Some e) h = h

if-map : {A : Type 0} (o : Option A) (f : A → Edit) → ((a : A) → IsEdit (f a)) → IfSome (option_map f o) IsEdit
if-map None f g = tt
if-map (Some a) f g = g a

pub keeps-fill : Keeps fill_rule
keeps-fill words = if-any IsCommand (six words) _ (λ t. edit-of _
    (if-any IsEdit (spot t.0 t.1 t.2 t.3 t.4) _ (λ at. if-then AreBytes IsEdit (hex t.5) _ (hex-are t.5) (λ pixel all. all))))

pub keeps-write : Keeps write_rule
keeps-write words = if-any IsCommand (six words) _ (λ t. edit-of _
    (if-any IsEdit (spot t.0 t.1 t.2 t.3 t.4) _ (λ at. if-then AreBytes IsEdit (hex t.5) _ (hex-are t.5) (λ pixels all. all))))

pub keeps-filter : Keeps filter_rule
keeps-filter words = if-any IsCommand (six words) _ (λ t. edit-of _
    (if-any IsEdit (spot t.0 t.1 t.2 t.3 t.4) _ (λ at. if-any IsEdit (number t.5) _ (λ slot. tt))))

pub keeps-copy : Keeps copy_rule
keeps-copy words = if-any IsCommand (eight words) _ (λ t. edit-of _
    (if-any IsEdit (spot t.0 t.1 t.2 t.3 t.4) _ (λ at. if-any IsEdit (number t.5) _ (λ from.
    if-any IsEdit (coordinate t.6) _ (λ left. if-any IsEdit (coordinate t.7) _ (λ top. tt))))))

pub keeps-fill_byte : (make : ℕ → Rect → ℕ → Edit) → ((id : ℕ) (r : Rect) (value : ℕ) → value ≤ 255 → IsEdit (make id r value))
    → Keeps (fill_byte_rule make)
keeps-fill_byte make is words = if-any IsCommand (six words) _ (λ t. edit-of _
    (if-any IsEdit (spot t.0 t.1 t.2 t.3 t.4) _
    (λ at. if-then (λ b. b ≤ 255) IsEdit (number_below 256 t.5) _ (byte t.5) (λ b le. is at.0 at.1 b le))))

pub keeps-byte : (make : ℕ → ℕ → Edit) → ((id value : ℕ) → value ≤ 255 → IsEdit (make id value)) → Keeps (byte_rule make)
keeps-byte make is words = if-any IsCommand (two words) _ (λ t. edit-of _
    (if-any IsEdit (number t.0) _ (λ id. if-then (λ b. b ≤ 255) IsEdit (number_below 256 t.1) _ (byte t.1) (λ b le. is id b le))))

pub keeps-number : (make : ℕ → ℕ → Edit) → ((id m : ℕ) → IsEdit (make id m)) → Keeps (number_rule make)
keeps-number make is words = if-any IsCommand (two words) _ (λ t. edit-of _
    (if-any IsEdit (number t.0) _ (λ id. if-any IsEdit (number t.1) _ (λ m. is id m))))

pub keeps-flag : (make : ℕ → Bool → Edit) → ((id : ℕ) (on : Bool) → IsEdit (make id on)) → Keeps (flag_rule make)
keeps-flag make is words = if-any IsCommand (two words) _ (λ t. edit-of _
    (if-any IsEdit (number t.0) _ (λ id. if-any IsEdit (flag t.1) _ (λ on. is id on))))

pub keeps-one : (make : ℕ → Edit) → ((id : ℕ) → IsEdit (make id)) → Keeps (one_rule make)
keeps-one make is words = if-any IsCommand (one words) _ (λ n. edit-of _ (if-map (number n) make is))

pub keeps-select : Keeps (rect_byte_rule edits.select)
keeps-select words = if-any IsCommand (five words) _ (λ t. edit-of _
    (if-any IsEdit (rect t.0 t.1 t.2 t.3) _ (λ r. if-then (λ b. b ≤ 255) IsEdit (number_below 256 t.4) _ (byte t.4) (λ b le. le))))

pub keeps-offset : Keeps offset_rule
keeps-offset words = if-any IsCommand (three words) _ (λ t. edit-of _
    (if-any IsEdit (number t.0) _ (λ id. if-any IsEdit (offset t.1 t.2) _ (λ to. tt))))

pub keeps-rename : Keeps rename_rule
keeps-rename words = if-any IsCommand (two words) _ (λ t. edit-of _
    (if-any IsEdit (number t.0) _ (λ id. if-then AreBytes IsEdit (hex t.1) _ (hex-are t.1) (λ bytes all. all))))

pub keeps-new_layer : Keeps new_layer_rule
keeps-new_layer words = if-any IsCommand (eight words) _ (λ t. edit-of _
    (if-any IsEdit (number t.0) _ (λ parent. if-any IsEdit (number t.1) _ (λ place. if-any IsEdit (offset t.2 t.3) _ (λ to.
    if-then AreSides IsEdit (size t.4 t.5) _ (size-is t.4 t.5) (λ sides are.
    if-any IsEdit (number_below 6 t.6) _
    (λ kind. if-then AreBytes IsEdit (hex t.7) _ (hex-are t.7) (λ bytes all. (are.0, are.1, all)))))))))

pub keeps-new_group : Keeps new_group_rule
keeps-new_group words = if-any IsCommand (three words) _ (λ t. edit-of _
    (if-any IsEdit (number t.0) _ (λ parent.
    if-any IsEdit (number t.1) _ (λ place. if-then AreBytes IsEdit (hex t.2) _ (hex-are t.2) (λ bytes all. all)))))

pub keeps-restack : Keeps restack_rule
keeps-restack words = if-any IsCommand (three words) _ (λ t. edit-of _
    (if-any IsEdit (number t.0) _ (λ id. if-any IsEdit (number t.1) _ (λ parent. if-any IsEdit (number t.2) _ (λ place. tt)))))

name-keeps : (o : Option (List ℕ)) → IfSome o AreBytes → IfSome (edit_of (option_map edits.add_channel o)) IsCommand
name-keeps None h = tt
name-keeps (Some bytes) h = h

pub keeps-name : Keeps (name_rule edits.add_channel)
keeps-name words = if-any IsCommand (one words) _ (λ name. name-keeps (hex name) (hex-are name))

pub keeps-colours : Keeps colours_rule
keeps-colours words = if-any IsCommand (one words) _ (λ word. edit-of _
    (if-then AreBytes IsEdit (hex word) _ (hex-are word) (λ bytes all.
    if-test IsEdit (are_colours bytes) (edits.set_colours bytes) (λ e.
    let first = and_parts (nat_le 3 (length bytes)) (nat_le (length bytes) 768 && length bytes % 3 == 0) e in
    let second = and_parts (nat_le (length bytes) 768) (length bytes % 3 == 0) first.1 in
    let least = leb-true 3 (length bytes) first.0 in
    let most = leb-true (length bytes) 768 second.0 in
    let rest = eqb-true (length bytes % 3) 0 second.1 in
    let whole = div-add-mod' (length bytes) 3 in
    (all, (length bytes / 3, omega arith, omega arith, omega arith))))))

pub keeps-alone : (command : Command) → IsCommand command → Keeps (alone command)
keeps-alone command is words = if-test IsCommand (none words) command (λ e. is)

optional-keeps : (make : Option ℕ → Command) (o : Option (Option ℕ)) → ((n : Option ℕ) → IsCommand (make n))
    → IfSome (option_map make o) IsCommand
optional-keeps make None is = tt
optional-keeps make (Some n) is = is n

pub keeps-optional : (make : Option ℕ → Command) → ((o : Option ℕ) → IsCommand (make o)) → Keeps (optional_rule make)
keeps-optional make is words = optional-keeps make (number_or_none words) is

call-of : (o : Option Call) → IfSome o IsOwnCall → IfSome (option_map a_call o) IsCommand
call-of None h = tt
call-of (Some c) h = h

pub keeps-tile : (make : ℕ → TileAt → Call) → ((stack : ℕ) (at : TileAt) → IsOwnCall (make stack at)) → Keeps (tile_rule make)
keeps-tile make is words = if-any IsCommand (three words) _ (λ t. call-of _
    (if-any IsOwnCall (number t.0) _
    (λ stack. if-any IsOwnCall (number t.1) _
    (λ col. if-any IsOwnCall (number t.2) _ (λ row. is stack (record { col = col; row = row }))))))

forget-keeps : (o : Option ℕ) → IfSome (option_map forgets o) IsCommand
forget-keeps None = tt
forget-keeps (Some slot) = tt

pub keeps-forget : Keeps forget_rule
keeps-forget words = if-any IsCommand (one words) _ (λ s. forget-keeps (number s))

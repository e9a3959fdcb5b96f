-- Worked scripts.
use Rattle.std.specs.Prelude.{◌≡◌, ℕ, List, [], ◌∷◌, ◌++◌, false, true, pos, negsuc, Some, None, refl, codes, replicate, Ok, Err}
use Rattle.spec_edit.specs.Edit.{fill, set_visible, set_opacity, set_offset, rename}
use Rattle.spec_history.specs.Machine.{edit, undo, redo, tile, peek, top}
use Rattle.spec_script.specs.Commands.{keywords}
use Rattle.spec_script.specs.Script.{script, Line, call, save}

-- a line, and a newline
abbrev ln : List ℕ → List ℕ
ln text = text ++ 10 ∷ []

abbrev only : List Line → List (List Line)
only lines = lines ∷ replicate 7 []

first_path : script (ln (codes "0 opacity 1 0") ++ ln (codes "0 tile 0 0 0") ++ ln (codes "0 undo")
    ++ codes "0 fill 1 2 3 4 5 0aFF") []
    ≡ Ok (only (
    call (edit None (set_opacity 1 0 ∷ [])) ∷ call (tile 0 (record { col = 0; row = 0 })) ∷ call (undo None)
    ∷ call (edit None (fill 1 (record { x = pos 2; y = pos 3; w = 4; h = 5 }) (10 ∷ 255 ∷ []) ∷ [])) ∷ []))
unfolding keywords
first_path = refl

bad_line : script (ln (codes "# a comment") ++ ln (codes "0 undo") ++ ln (codes "0 blur 1")) (replicate 8 4) ≡ Err 3
unfolding keywords
bad_line = refl

nothing : script [] (replicate 8 4) ≡ Ok (only [])
unfolding keywords
nothing = refl

skipped : script (10 ∷ ln (codes "# 0 undo") ++ codes "0 undo") [] ≡ Ok (only (call (undo None) ∷ []))
unfolding keywords
skipped = refl

zero_first : script (ln (codes "0 opacity 01 2")) (replicate 8 4) ≡ Err 1
unfolding keywords
zero_first = refl

past_id : script (codes "0 opacity 4294967296 1") [] ≡ Err 1
unfolding keywords
past_id = refl

past_byte : script (codes "0 opacity 1 256") [] ≡ Err 1
unfolding keywords
past_byte = refl

past_coordinate : script (codes "0 fill 1 0 0 1048576 1 00") [] ≡ Err 1
unfolding keywords
past_coordinate = refl

-- each session has its lines, and a session may have no group but a call of each kind
calls_of_two : script (ln (codes "1 undo") ++ ln (codes "0 undo 1") ++ ln (codes "1 redo") ++ ln (codes "0 top")
    ++ codes "1 peek 2 3 4") []
    ≡ Ok ((call (undo (Some 1)) ∷ call top ∷ []) ∷ (call (undo None) ∷ call redo ∷ call (peek 2 (record { col = 3; row = 4 })) ∷ [])
    ∷ replicate 6 [])
unfolding keywords
calls_of_two = refl

run : script (ln (codes "0 visible 1 0") ++ ln (codes "0 tile 0 0 0") ++ ln (codes "0 undo") ++ codes "0 top") (replicate 8 4)
    ≡ Ok (only (call (edit None (set_visible 1 false ∷ [])) ∷ call (tile 0 (record { col = 0; row = 0 })) ∷ call (undo None)
    ∷ call top ∷ []))
unfolding keywords
run = refl

grouped : script (ln (codes "0 begin 7") ++ ln (codes "0 opacity 1 9") ++ ln (codes "0 visible 1 1")
    ++ ln (codes "0 end")) (replicate 8 4)
    ≡ Ok (only (call (edit (Some 7) (set_opacity 1 9 ∷ set_visible 1 true ∷ [])) ∷ []))
unfolding keywords
grouped = refl

dropped : script (ln (codes "0 forget 3") ++ ln (codes "0 filter 1 0 0 1 1 3")) (replicate 8 4) ≡ Err 2
unfolding keywords
dropped = refl

never : script (ln (codes "1 begin") ++ ln (codes "0 begin") ++ ln (codes "1 opacity 1 2") ++ ln (codes "1 end")) (replicate 8 4)
    ≡ Err 2
unfolding keywords
never = refl

two_spaces : script (ln (codes "0  top")) (replicate 8 4) ≡ Err 1
unfolding keywords
two_spaces = refl

-- signed numbers lie in the range of 32 bits, and there is no -0
least_offset : script (codes "0 offset 1 -2147483648 2147483647") []
    ≡ Ok (only (call (edit None (set_offset 1 (negsuc 2147483647) (pos 2147483647) ∷ [])) ∷ []))
unfolding keywords
least_offset = refl

past_least : script (codes "0 offset 1 -2147483649 0") [] ≡ Err 1
unfolding keywords
past_least = refl

past_greatest : script (codes "0 offset 1 2147483648 0") [] ≡ Err 1
unfolding keywords
past_greatest = refl

minus_zero : script (codes "0 offset 1 -0 0") [] ≡ Err 1
unfolding keywords
minus_zero = refl

-- a group has an edit, whatever comments stand between
no_edit : script (ln (codes "0 begin") ++ ln (codes "# none") ++ ln (codes "0 end")) [] ≡ Err 3
unfolding keywords
no_edit = refl

no_begin : script (codes "0 end") [] ≡ Err 1
unfolding keywords
no_begin = refl

only_edits : script (ln (codes "0 begin") ++ ln (codes "0 top")) [] ≡ Err 2
unfolding keywords
only_edits = refl

digit_alone : script (codes "0") [] ≡ Err 1
unfolding keywords
digit_alone = refl

ninth_session : script (codes "8 top") [] ≡ Err 1
unfolding keywords
ninth_session = refl

-- a carriage return is no blank
returned : script (codes "0 top" ++ 13 ∷ 10 ∷ []) [] ≡ Err 1
unfolding keywords
returned = refl

odd_digits : script (codes "0 rename 1 abc") [] ≡ Err 1
unfolding keywords
odd_digits = refl

no_bytes : script (codes "0 rename 1 -") [] ≡ Ok (only (call (edit None (rename 1 [] ∷ [])) ∷ []))
unfolding keywords
no_bytes = refl

last_blank : script (codes "0 top ") [] ≡ Err 1
unfolding keywords
last_blank = refl

no_side : script (codes "0 newlayer 0 0 0 0 0 1 1 -") [] ≡ Err 1
unfolding keywords
no_side = refl

four_bytes : script (codes "0 colours 00112233") [] ≡ Err 1
unfolding keywords
four_bytes = refl

no_filter : script (codes "0 filter 1 0 0 1 1 4") (replicate 8 4) ≡ Err 1
unfolding keywords
no_filter = refl

-- a session may begin while another's group is open, and a save is a line of its own
two_sessions : script (ln (codes "0 begin") ++ ln (codes "1 save") ++ ln (codes "0 opacity 1 9") ++ codes "0 end") []
    ≡ Ok ((call (edit None (set_opacity 1 9 ∷ [])) ∷ []) ∷ (save ∷ []) ∷ replicate 6 [])
unfolding keywords
two_sessions = refl

-- ---- lists of lines

skipped_too : script (10 ∷ ln (codes "# 0 peek 0 0 0") ++ codes "0 undo") [] ≡ Ok (only (call (undo None) ∷ []))
unfolding keywords
skipped_too = refl

-- a group, an undo by its number, redo, the last group and a save
several_calls : script (ln (codes "0 begin 7") ++ ln (codes "0 opacity 1 9") ++ ln (codes "0 visible 1 0") ++ ln (codes "0 end")
    ++ ln (codes "0 undo 1") ++ ln (codes "0 redo") ++ ln (codes "0 top") ++ codes "0 save") []
    ≡ Ok (only (
    call (edit (Some 7) (set_opacity 1 9 ∷ set_visible 1 false ∷ [])) ∷ call (undo (Some 1)) ∷ call redo ∷ call top ∷ save ∷ []))
unfolding keywords
several_calls = refl

-- a line that is not in the grammar has its number, behind lines that are skipped
bad_number : script (ln (codes "# a comment") ++ ln (codes "0 undo") ++ 10 ∷ ln (codes "0 blur 1") ++ codes "0 redo") [] ≡ Err 4
unfolding keywords
bad_number = refl

-- a peek is a line as a tile is
peek_line : script (ln (codes "0 undo") ++ ln (codes "0 peek 0 0 0")) []
    ≡ Ok (only (call (undo None) ∷ call (peek 0 (record { col = 0; row = 0 })) ∷ []))
unfolding keywords
peek_line = refl

-- a filter that the session has, in a group and until it is dropped
filter_line : script (ln (codes "0 forget 2") ++ ln (codes "0 begin") ++ ln (codes "0 filter 1 0 0 1 1 3") ++ ln (codes "0 end")
    ++ codes "0 filter 1 0 0 1 1 2") (replicate 8 4)
    ≡ Err 5
unfolding keywords
filter_line = refl

forgotten_twice : script (ln (codes "0 forget 3") ++ codes "0 forget 3") (replicate 8 4) ≡ Err 2
unfolding keywords
forgotten_twice = refl

group_never_ended : script (ln (codes "0 undo") ++ ln (codes "0 begin") ++ codes "0 opacity 1 9") [] ≡ Err 2
unfolding keywords
group_never_ended = refl

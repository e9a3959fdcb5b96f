-- Worked scripts.
use Rattle.std.specs.Prelude.{◌≡◌, ℕ, List, [], ◌∷◌, ◌++◌, None, refl, codes, Ok, Err}
use Rattle.spec_edit.specs.Edit.{set_opacity}
use Rattle.spec_history.specs.Machine.{edit, tile}
use Rattle.spec_script.specs.Commands.{keywords}
use Rattle.spec_script.specs.Script.{call}
use Rattle.spec_view.specs.Script.{view_script}

-- a line, and a newline
abbrev ln : List ℕ → List ℕ
ln text = text ++ 10 ∷ []

taken : view_script (ln (codes "0 opacity 1 0") ++ ln (codes "# 1 save") ++ codes "0 tile 0 0 0") 0
    ≡ Ok (call (edit None (set_opacity 1 0 ∷ [])) ∷ call (tile 0 (record { col = 0; row = 0 })) ∷ [])
unfolding keywords
taken = refl

no_save : view_script (ln (codes "0 top") ++ ln (codes "0 save") ++ codes "0 blur") 0 ≡ Err 2
unfolding keywords
no_save = refl

no_peek : view_script (ln (codes "0 top") ++ codes "0 peek 0 0 0") 0 ≡ Err 2
unfolding keywords
no_peek = refl

no_other_session : view_script (ln (codes "0 top") ++ codes "1 top") 0 ≡ Err 2
unfolding keywords
no_other_session = refl

-- what is wrong first is told, whatever is wrong behind it
first_told : view_script (ln (codes "0 blur 1") ++ codes "0 save") 4 ≡ Err 1
unfolding keywords
first_told = refl

-- a group without an end is found behind all lines
end_last : view_script (ln (codes "0 begin") ++ codes "1 top") 0 ≡ Err 2
unfolding keywords
end_last = refl

-- What is drawn of several things, one after another.
use Rattle.std.proofs.Common.{◌≡◌, ℕ, ◌+◌, List, [], ◌∷◌, ◌++◌, refl, sym, ap, ◌∙◌}
use Rattle.std.specs.Prelude.{pos, None, slice_index_or}
use Rattle.spec_document.specs.declared.Mode.TheVariants.{Normal}
use Rattle.spec_document.specs.Rect.{count_from}
use Rattle.spec_document.specs.Document.{Document}
use Rattle.spec_edit.specs.Edit as edits
use Rattle.spec_history.specs.Machine as machine
use Rattle.spec_script.specs.Script.{Line, call, save}
use Rattle.spec_generated.specs.Draws.{Drawn, Draws, draw, give, ◌>>=◌, times, for_each}
use Rattle.spec_generated.specs.Generated.{Look, Parts, all, document, document_with, fill, fills_and_tile}
use Rattle.spec_generated.specs.Generated.{layer_of_session, look, modes, pixel, script, session_lines, tile}
use Rattle.xl_report.specs.Drawing.{IsDrawn, AddsDrawn}
use Rattle.xl_report.proofs.Repeats.{adds_last, joined}

pub then : {A B : Type 0} (first : Draws A) (rest : A → Draws B) (s t : ℕ) (a : A) → IsDrawn first s a t
    → (first >>= rest) s ≡ rest a t
then first rest s t a e = ap (λ d. rest d.what d.state) e

pub drawn_1 : {A F : Type 0} (a : Draws A) (f : A → F) (s s1 : ℕ) (x : A) → IsDrawn a s x s1
    → IsDrawn (a >>= λ x. give (f x)) s (f x) s1
drawn_1 a f s s1 x e = then a (λ x. give (f x)) s s1 x e

pub drawn_2 : {A B F : Type 0} (a : Draws A) (b : Draws B) (f : A → B → F) (s s1 s2 : ℕ) (x : A) (y : B) → IsDrawn a s x s1
    → IsDrawn b s1 y s2
    → IsDrawn (a >>= λ x. b >>= λ y. give (f x y)) s (f x y) s2
drawn_2 a b f s s1 s2 x y e e1 = then a (λ x. b >>= λ y. give (f x y)) s s1 x e ∙ drawn_1 b (f x) s1 s2 y e1

pub drawn_3 : {A B C F : Type 0} (a : Draws A) (b : Draws B) (c : Draws C) (f : A → B → C
    → F) (s s1 s2 s3 : ℕ) (x : A) (y : B) (z : C)
    → IsDrawn a s x s1 → IsDrawn b s1 y s2 → IsDrawn c s2 z s3
    → IsDrawn (a >>= λ x. b >>= λ y. c >>= λ z. give (f x y z)) s (f x y z) s3
drawn_3 a b c f s s1 s2 s3 x y z e e1 e2 =
    then a (λ x. b >>= λ y. c >>= λ z. give (f x y z)) s s1 x e ∙ drawn_2 b c (f x) s1 s2 s3 y z e1 e2

pub drawn_4 : {A B C D F : Type 0} (a : Draws A) (b : Draws B) (c : Draws C) (d : Draws D) (f : A → B → C → D
    → F) (s s1 s2 s3 s4 : ℕ) (x : A) (y : B) (z : C) (v : D)
    → IsDrawn a s x s1 → IsDrawn b s1 y s2 → IsDrawn c s2 z s3 → IsDrawn d s3 v s4
    → IsDrawn (a >>= λ x. b >>= λ y. c >>= λ z. d >>= λ v. give (f x y z v)) s (f x y z v) s4
drawn_4 a b c d f s s1 s2 s3 s4 x y z v e e1 e2 e3 =
    then a (λ x. b >>= λ y. c >>= λ z. d >>= λ v. give (f x y z v)) s s1 x e ∙ drawn_3 b c d (f x) s1 s2 s3 s4 y z v e1 e2 e3

pub drawn_5 : {A B C D E F : Type 0} (a : Draws A) (b : Draws B) (c : Draws C) (d : Draws D) (k : Draws E) (f : A → B → C → D → E
    → F) (s s1 s2 s3 s4 s5 : ℕ) (x : A) (y : B) (z : C) (v : D) (w : E)
    → IsDrawn a s x s1 → IsDrawn b s1 y s2 → IsDrawn c s2 z s3 → IsDrawn d s3 v s4 → IsDrawn k s4 w s5
    → IsDrawn (a >>= λ x. b >>= λ y. c >>= λ z. d >>= λ v. k >>= λ w. give (f x y z v w)) s (f x y z v w) s5
drawn_5 a b c d k f s s1 s2 s3 s4 s5 x y z v w e e1 e2 e3 e4 =
    then a (λ x. b >>= λ y. c >>= λ z. d >>= λ v. k >>= λ w. give (f x y z v w)) s s1 x e
    ∙ drawn_4 b c d k (f x) s1 s2 s3 s4 s5 y z v w e1 e2 e3 e4

-- ---- each definition

pub look_is : (s s1 s2 s3 s4 s5 x y place part : ℕ) (colour : List ℕ)
    → IsDrawn (draw 512) s x s1 → IsDrawn (draw 384) s1 y s2 → IsDrawn (draw 5) s2 place s3 → IsDrawn (draw 128) s3 part s4
    → IsDrawn pixel s4 colour s5
    → IsDrawn look s (record { x = x; y = y; mode = slice_index_or modes place Normal; opacity = 128 + part; pixel = colour }) s5
look_is s s1 s2 s3 s4 s5 x y place part colour e e1 e2 e3 e4 =
    let made : ℕ → ℕ → ℕ → ℕ → List ℕ
    → Look = λ x y place part colour. record {
      x = x;
      y = y;
      mode = slice_index_or modes place Normal;
      opacity = 128 + part;
      pixel = colour;
    } in
    drawn_5 (draw 512) (draw 384) (draw 5) (draw 128) pixel made s s1 s2 s3 s4 s5 x y place part colour e e1 e2 e3 e4

abbrev pub fills : (layer x y w h : ℕ) → List ℕ → Line
fills layer x y w h colour =
    call (machine.edit None (edits.fill layer (record { x = pos x; y = pos y; w = 1 + w; h = 1 + h }) colour ∷ []))

pub fill_is : (layer s s1 s2 s3 s4 s5 x y w h : ℕ) (colour : List ℕ)
    → IsDrawn (draw 448) s x s1 → IsDrawn (draw 320) s1 y s2 → IsDrawn (draw 64) s2 w s3 → IsDrawn (draw 64) s3 h s4
    → IsDrawn pixel s4 colour s5
    → IsDrawn (fill layer) s (fills layer x y w h colour) s5
fill_is layer s s1 s2 s3 s4 s5 x y w h colour e e1 e2 e3 e4 =
    drawn_5 (draw 448) (draw 320) (draw 64) (draw 64) pixel (fills layer) s s1 s2 s3 s4 s5 x y w h colour e e1 e2 e3 e4

pub tile_is : (s s1 s2 column line : ℕ) → IsDrawn (draw 16) s column s1 → IsDrawn (draw 12) s1 line s2
    → IsDrawn tile s (call (machine.tile 0 (record { col = column; row = line }))) s2
tile_is s s1 s2 column line e e1 =
    let made : ℕ → ℕ → Line = λ column line. call (machine.tile 0 (record { col = column; row = line })) in
    drawn_2 (draw 16) (draw 12) made s s1 s2 column line e e1

pub tile_last : (layer s t u : ℕ) (before now : List Line) (a : Line) → AddsDrawn (times 32 (fill layer)) s before now t
    → IsDrawn tile t a u
    → AddsDrawn (fills_and_tile layer) s before (now ++ a ∷ []) u
tile_last layer s t u before now a first more =
    adds_last tile s t u before now (times 32 (fill layer)) (fills_and_tile layer) a first more refl

pub parts_all : (session layer n s : ℕ) (r : Drawn (List Line)) → n ≡ 3 → layer ≡ layer_of_session session
    → joined (times n (fills_and_tile layer) s) ≡ r
    → joined (times 3 (fills_and_tile (layer_of_session session)) s) ≡ r
parts_all session layer n s r n_is layer_is e =
    ap (λ k. joined (times k (fills_and_tile (layer_of_session session)) s)) (sym n_is)
    ∙ (ap (λ l. joined (times n (fills_and_tile l) s)) (sym layer_is) ∙ e)

pub save_last : (session s t : ℕ) (now : List Line)
    → joined (times 3 (fills_and_tile (layer_of_session session)) s) ≡ record { what = now; state = t }
    → IsDrawn (session_lines session) s (now ++ save ∷ []) t
save_last session s t now e =
    let f : Drawn (List Line) → Drawn (List Line) = λ d. record { what = d.what ++ save ∷ []; state = d.state } in ap f e

-- ---- both

module _ (seed s t : ℕ) (looks : List Look) (lists : List (List Line)) (first : IsDrawn (times 8 look) seed looks s)
    (then_lists : IsDrawn (for_each (count_from 0 8) session_lines) s lists t) where
  all_is : IsDrawn all seed (record { looks = looks; sessions = lists }) t
  all_is =
      let made : List Look → List (List Line) → Parts = λ looks lists. record { looks = looks; sessions = lists } in
      drawn_2 (times 8 look) (for_each (count_from 0 8) session_lines) made seed s t looks lists first then_lists

  pub document_is : document_with looks ≡ document seed
  document_is = let f : Drawn Parts → Document = λ d. document_with d.what.looks in sym (ap f all_is)

  pub script_is : lists ≡ script seed
  script_is = let f : Drawn Parts → List (List Line) = λ d. d.what.sessions in sym (ap f all_is)

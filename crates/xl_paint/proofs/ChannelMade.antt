-- A channel that is filled.
use Rattle.std.proofs.Common.{◌≡◌, ℕ, zero, suc, ◌<◌, ◌≤◌, List, [], ◌∷◌, length, refl, sym, ◌∙◌, ap, subst, arith, get_or, set}
use Rattle.std.specs.Prelude.{false, pos, None, Ok}
use Rattle.spec_document.specs.declared.Rect.{Rect}
use Rattle.spec_document.specs.Document.{Document, Channel}
use Rattle.spec_document.specs.Limits.{IsDocument}
use Rattle.spec_edit.specs.Edit.{fill_channel}
use Rattle.spec_edit.specs.Refusal.{refusal}
use Rattle.spec_edit.specs.Effect.{changed_at, effect, through, with_plane}
use Rattle.spec_edit.specs.Apply as edits
use Rattle.xl_tiles.specs.Written.{written}
use Rattle.xl_paint.specs.Applied.{at, Makes}
use Rattle.spec_document.specs.Forest.{Forest}
use Rattle.xl_doc.specs.declared.node.Node.{Node}
use Rattle.xl_doc.specs.Sound.{IsSound}
use Rattle.xl_paint.specs.Channels.{IsChannelPiece, PaintsChannel}
use Rattle.xl_paint.proofs.Limited.{made_limits}

module _ {A : Type 0} where
  -- an element in the place of one is that one changed
  pub set_changed : (change : A → A) (place : ℕ) (xs : List A) (was now : A) → was ≡ get_or xs place was → place < length xs
      → now ≡ change was
      → set xs place now ≡ changed_at place change xs
  set_changed change place [] was now at there is = absurd (omega (arith, there))
  set_changed change zero (x ∷ xs) was now at there is = ap (λ y. y ∷ xs) (is ∙ ap change at)
  set_changed change (suc place) (x ∷ xs) was now at there is =
      ap (λ ys. x ∷ ys) (set_changed change place xs was now at (omega (arith, there)) is)

  -- changes that come to the same at the element
  pub same_changed : (a b : A → A) (place : ℕ) (xs : List A) → ((x : A) → get_or xs place x ≡ x → a x ≡ b x)
      → changed_at place a xs ≡ changed_at place b xs
  same_changed a b place [] same = refl
  same_changed a b zero (x ∷ xs) same = ap (λ y. y ∷ xs) (same x refl)
  same_changed a b (suc place) (x ∷ xs) same = ap (λ ys. x ∷ ys) (same_changed a b place xs same)

  -- there is one element at a place
  pub one_there : (place : ℕ) (xs : List A) (x y : A) → place < length xs → x ≡ get_or xs place x → get_or xs place y ≡ y → x ≡ y
  one_there place [] x y there a b = absurd (omega (arith, there))
  one_there zero (z ∷ xs) x y there a b = a ∙ b
  one_there (suc place) (z ∷ xs) x y there a b = one_there place xs x y (omega (arith, there)) a b

pub channel_fits : (d : Document) (index : ℕ) (rect : Rect) (value : ℕ) (bytes : List ℕ) → PaintsChannel d index rect value bytes
    → IsChannelPiece rect bytes index d.channels
channel_fits d index rect value bytes paints = λ c at. (paints c at).piece

-- The document is seen as its fields, and as what they stand for.
module _ (before d : Document) (index : ℕ) (rect : Rect) (value : ℕ) (bytes : List ℕ) (channels : List Channel) where
  pub channel_made : before ≡ d → refusal d (fill_channel index rect value) ≡ None → PaintsChannel d index rect value bytes
      → channels ≡ changed_at index (with_plane (λ p. written p rect bytes)) before.channels
      → Makes d (record before { channels = channels }) (fill_channel index rect value) (Ok tt)
  channel_made same allowed paints is = λ table next.
      let a : Channel → Channel = with_plane (λ p. written p rect bytes) in
      let b : Channel → Channel = with_plane (through d false (pos 0) (pos 0) rect (λ x y c. value)) in
      let filled : changed_at index a d.channels ≡ changed_at index b d.channels =
      same_changed a b index d.channels (λ c at. ap (λ p. record c { plane = p }) (paints c at).painted) in
      let here : channels ≡ changed_at index b d.channels = is
      ∙ (ap (λ (x : Document). changed_at index a x.channels) same ∙ filled) in
      let all : effect d next table (fill_channel index rect value) ≡ record before { channels = channels } =
      ap (λ xs. record d { channels = xs }) (sym here) ∙ ap (λ (x : Document). record x { channels = channels }) (sym same) in
      λ i. edits.unless_refused (allowed i) (at (all i) next)

  pub channel_limits : before ≡ d → refusal d (fill_channel index rect value) ≡ None → PaintsChannel d index rect value bytes
      → channels ≡ changed_at index (with_plane (λ p. written p rect bytes)) before.channels → IsDocument before → value ≤ 255
      → IsDocument (record before { channels = channels })
  channel_limits same allowed paints is whole byte =
      made_limits d (record before { channels = channels }) (fill_channel index rect value) (subst IsDocument same whole) byte refl
      (channel_made same allowed paints is)

-- where the channels are as before, all is as before
pub channels_kept : (tree : Forest Node Node) (before : Document) (channels : List Channel) → channels ≡ before.channels
    → IsSound tree before
    → IsSound tree (record before { channels = channels })
channels_kept tree before channels same s =
    let P : List Channel → Type 0 = λ x. IsSound tree (record before { channels = x }) in
    subst P (sym same) s

-- Bytes as a text.
use Rattle.std.proofs.Common.{◌≡◌, ℕ, List, Bool, true, false, refl, sym, ap, if◌then◌else◌}
use Rattle.std.specs.Str.{IsUtf8, is_utf8}
use Rattle.std.proofs.lemmas.Str.{IsUtf8-from_is_utf8, is_utf8-from_IsUtf8}
use Rattle.serde_json.specs.Data.{null, string}
use Rattle.spec_listing.specs.Listing.{text}

pub text_is : (bytes : List ℕ) → IsUtf8 bytes → string bytes ≡ text bytes
text_is bytes is = sym (ap (λ (b : Bool). if b then string bytes else null) (is_utf8-from_IsUtf8 bytes is))

pub text_is_none : (bytes : List ℕ) → ¬ (IsUtf8 bytes) → null ≡ text bytes
text_is_none bytes other = go (is_utf8 bytes) refl
  where
    go : (b : Bool) → is_utf8 bytes ≡ b → null ≡ text bytes
    go true e = absurd (other (IsUtf8-from_is_utf8 bytes e))
    go false e = sym (ap (λ (t : Bool). if t then string bytes else null) e)

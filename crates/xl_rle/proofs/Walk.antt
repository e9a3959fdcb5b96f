-- A walk over the codes of a plane, of which only the offsets are kept.
use Rattle.std.proofs.Common.{◌≡◌, ℕ, ◌+◌, ◌-◌, ◌<◌, ◌≤◌, cond, List, ◌++◌, length, drop, ap, subst, sym, ◌∙◌, refl}
use Rattle.std.proofs.Common.{arith, length-drop, length-take-le}
use Rattle.std.specs.Prelude.{Ok, Err, Bool, true, false, replicate, slice_index}
use Rattle.std.proofs.lemmas.List.{length-replicate}
use Rattle.spec_fields.specs.declared.ReadRefused.{ReadRefused}
use Rattle.spec_fields.specs.Field.{bytes_at}
use Rattle.spec_rle.specs.Reading.{Head, body_length, body_pixels, code_at, plane_at}
use Rattle.xl_rle.specs.NextOf.{next_of}
use Rattle.xl_rle.proofs.Steps.{Begins, Reading, stops, goes_on, ends}

-- so many bytes are still wanted
pub record Walking (file : List ℕ) (from at room wanted left : ℕ) : Type 0 where
  pub so_far : List ℕ
  pub inside : wanted ≤ room
  pub reading : Reading so_far file from at room (room - wanted) left

pub walk_stops : {file : List ℕ} {from at room wanted left : ℕ} {e : ReadRefused} → Walking file from at room wanted left
    → 0 < wanted
    → code_at file at left wanted ≡ Err e → Err e ≡ next_of (plane_at file from room)
walk_stops {file = file} {from = from} {at = at} {room = room} {wanted = wanted} {left = left} {e = e} w some h =
    let rest : room - (room - wanted) ≡ wanted = omega (arith, w.inside) in
    let fault : code_at file at left (room - (room - wanted)) ≡ Err e = ap (code_at file at left) rest ∙ h in
    sym (ap next_of (stops w.reading (omega (arith, w.inside, some)) fault))

-- a code whose body is in the file gives as many bytes as its head says
pub length_of_body : (file : List ℕ) (h : Head) → h.body + body_length h ≤ length file → length (body_pixels file h) ≡ h.count
length_of_body file h fits = by h.is_run refl
  where
    by : (b : Bool) → h.is_run ≡ b → length (body_pixels file h) ≡ h.count
    by true e = ap (λ b. length (cond b (replicate h.count (slice_index file h.body)) (bytes_at file h.body h.count))) e
        ∙ length-replicate h.count (slice_index file h.body)
    by false e =
        let size : body_length h ≡ h.count = ap (λ b. cond b 1 h.count) e in
        ap (λ b. length (cond b (replicate h.count (slice_index file h.body)) (bytes_at file h.body h.count))) e
        ∙ length-take-le h.count (drop h.body file) (omega (arith, length-drop h.body file, fits, size))

pub walk_goes_on : {file : List ℕ} {from at room wanted left : ℕ} → Walking file from at room wanted left → (h : Head)
    → Begins file at h → 0 < left → 0 < wanted
    → h.count ≤ wanted → h.body + body_length h ≤ length file → (next : ℕ) → next ≡ h.body + body_length h
    → Walking file from next room (wanted - h.count) (left - 1)
walk_goes_on {file = file} {from = from} {at = at} {room = room} {wanted = wanted} {left =
    left} w h b some more fits whole next next_is =
    let filled : room - wanted + h.count ≡ room - (wanted - h.count) = omega (arith, w.inside, fits) in
    let front = w.so_far ++ body_pixels file h in
    record {
      so_far = front;
      inside = omega (arith, w.inside);
      reading = subst (λ f. Reading front file from next room f (left - 1)) filled
          (goes_on w.reading h b some (omega (arith, w.inside, more)) (omega (arith, w.inside, fits)) whole front next refl
          (length_of_body file h whole) next_is);
    }

pub walk_ends : {file : List ℕ} {from at room wanted left : ℕ} → Walking file from at room wanted left → wanted ≤ 0
    → Ok at ≡ next_of (plane_at file from room)
walk_ends w none = sym (ap next_of (ends w.reading (omega (arith, none))))

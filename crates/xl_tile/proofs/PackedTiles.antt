-- Tiles that stand in a file.
use Rattle.std.proofs.Common.{◌≡◌, ℕ, zero, suc, ◌+◌, ◌-◌, ◌*◌, ◌<◌, ◌≤◌, Bool, true, false, cond, List, [], ◌∷◌}
use Rattle.std.proofs.Common.{length, map, take, drop, slice_index, refl, sym, ap, subst, ◌∙◌, arith}
use Rattle.std.specs.Prelude.{Ok, Err, ◌==◌, nat_le, MatchBool}
use Rattle.spec_document.specs.Limits.{AreBytes}
use Rattle.spec_document.proofs.PlaneLemmas.{length-pieces}
use Rattle.spec_fields.specs.declared.ReadRefused.{ReadRefused}
use Rattle.spec_fields.specs.Reading.{Read, ◌>>=◌}
use Rattle.spec_fields.specs.Field.{HasBytes, bytes_at}
use Rattle.spec_fields.specs.declared.Kind.TheVariants.{Truncated}
use Rattle.spec_fields.specs.Reading.{fault, wants}
use Rattle.spec_fields.proofs.Back.{wants_back}
use Rattle.spec_fields.proofs.Steps.{pass}
use Rattle.std.proofs.lemmas.Bool.{le-leb, leb-true}
use Rattle.std.proofs.lemmas.List.{length-map}
use Rattle.std.proofs.lemmas.Bool.Decides.{nat_tests}
use Rattle.std.proofs.Math.Dec.{eqb-suc-zero}
use Rattle.spec_rle.specs.Reading.{Part, plane_at}
use Rattle.spec_hierarchy.specs.Tiles.{interleaved}
use Rattle.spec_hierarchy.specs.Reading.{plain_at, planes_at, tile_at}
use Rattle.spec_hierarchy.specs.Holds.{IsSpelledTile}
use Rattle.spec_hierarchy.proofs.PlanesBack.{tile_has}
use Rattle.xl_rle.specs.NextOf.{next_of}
use Rattle.xl_tile.specs.Packed.{bytes_or_none, packed, IsPacked, done}

done_then : {A B : Type 0} (r : Read A) (f : A → B) → done (r >>= (λ x. Ok (f x))) ≡ done r
done_then (Ok x) f = refl
done_then (Err e) f = refl

ok_is : {A : Type 0} {x y : A} → (d : A) → ◌≡◌ {A = Read A} (Ok x) (Ok y) → x ≡ y
ok_is {A = A} d e = ap value e
  where
    value : Read A → A
    value (Ok x) = x
    value (Err e) = d

-- one plane is walked, and the others are still to be walked
plane_more : (rest : Part → Read (List (List ℕ))) (file : List ℕ) (k n next : ℕ) (r : Read Part)
    → Ok next ≡ next_of r → done (r >>= (λ part. planes_at k file part.next n >>= (λ rest. Ok (part.pixels ∷ rest))))
    ≡ done (planes_at k file next n)
plane_more rest file k n next (Ok part) e =
    done_then (planes_at k file part.next n) (λ rest. part.pixels ∷ rest)
    ∙ ap (λ m. done (planes_at k file m n)) (sym (ok_is 0 e))
plane_more rest file k n next (Err f) e = cc

fault_of : (e : ReadRefused) (r : Read Part) → Err e ≡ next_of r → r ≡ Err e
fault_of e (Ok part) h = cc
fault_of e (Err f) h = cc

-- the first c planes are walked
pub record Checking (file : List ℕ) (from n bpp c at : ℕ) : Type 0 where
  pub reads : done (planes_at bpp file from n) ≡ done (planes_at (bpp - c) file at n)

pub check_stops : {file : List ℕ} {from n bpp c at : ℕ} {e : ReadRefused} → Checking file from n bpp c at → c < bpp
    → Err e ≡ next_of (plane_at file at n) → Err e ≡ done (planes_at bpp file from n)
unfolding planes_at
check_stops {file = file} {n = n} {bpp = bpp} {c = c} {at = at} {e = e} so_far some h =
    let left : bpp - c ≡ suc (bpp - (c + 1)) = omega (arith, some) in
    sym (so_far.reads ∙ (ap (λ k. done (planes_at k file at n)) left
    ∙ ap (λ r. done (r >>= (λ part. planes_at (bpp - (c + 1)) file part.next n >>= (λ rest. Ok (part.pixels ∷ rest)))))
    (fault_of e (plane_at file at n) h)))

pub check_goes_on : {file : List ℕ} {from n bpp c at : ℕ} → Checking file from n bpp c at → c < bpp → (next : ℕ)
    → Ok next ≡ next_of (plane_at file at n) → Checking file from n bpp (c + 1) next
unfolding planes_at
check_goes_on {file = file} {n = n} {bpp = bpp} {c = c} {at = at} so_far some next h =
    let left : bpp - c ≡ suc (bpp - (c + 1)) = omega (arith, some) in
    record {
      reads = so_far.reads ∙ (ap (λ k. done (planes_at k file at n)) left
          ∙ plane_more (λ part. Ok []) file (bpp - (c + 1)) n next (plane_at file at n) h);
    }

pub check_ends : {file : List ℕ} {from n bpp c at : ℕ} → Checking file from n bpp c at → bpp ≤ c
    → Ok tt ≡ done (planes_at bpp file from n)
unfolding planes_at
check_ends {file = file} {n = n} {bpp = bpp} {c = c} {at = at} so_far whole =
    let none : bpp - c ≡ zero = omega (arith, whole) in
    sym (so_far.reads ∙ ap (λ k. done (planes_at k file at n)) none)

pub plain_short : (file : List ℕ) (at n : ℕ) → length file < at + n → Err (fault Truncated at) ≡ done (plain_at file at n)
unfolding plain_at
plain_short file at n short =
    let fails : nat_le (at + n) (length file) ≡ false = grind (arith, nat_tests, short) in
    sym (ap (λ b. done (wants b (fault Truncated at) >>= (λ _. Ok (bytes_at file at n)))) fails)

pub plain_there : (file : List ℕ) (at n : ℕ) → at + n ≤ length file → Ok tt ≡ done (plain_at file at n)
unfolding plain_at
plain_there file at n fits =
    sym (ap done (pass (nat_le (at + n) (length file)) (fault Truncated at) (λ _. Ok (bytes_at file at n))
    (le-leb (at + n) (length file) fits)))

pub tile_plain : (file : List ℕ) (at n bpp compression : ℕ) (result : Read (Unit {0})) → compression ≡ 0
    → result ≡ done (plain_at file at (n * bpp)) → result ≡ done (tile_at file at n bpp compression)
unfolding tile_at
tile_plain file at n bpp compression result none h = h ∙ ap (λ k. done (tile_at file at n bpp k)) (sym none)

pub tile_spelled : (file : List ℕ) (at n bpp compression : ℕ) (result : Read (Unit {0})) → 0 < compression
    → result ≡ done (planes_at bpp file at n) → result ≡ done (tile_at file at n bpp compression)
unfolding tile_at
tile_spelled file at n bpp zero result some h = absurd (omega (arith, some))
tile_spelled file at n bpp (suc compression) result some h =
    let spelled : Read (List ℕ) = planes_at bpp file at n >>= (λ planes. Ok (interleaved n planes)) in
    h ∙ (sym (done_then (planes_at bpp file at n) (interleaved n))
    ∙ ap (λ b. done (cond b (plain_at file at (n * bpp)) spelled)) (sym (eqb-suc-zero compression)))

-- a plain tile stands in the file
pub plain_reads : (file : List ℕ) (at n bpp : ℕ) → IsPacked file at n bpp 0
    → (at + n * bpp ≤ length file) × (take (n * bpp) (drop at file) ≡ packed file at n bpp 0)
unfolding tile_at plain_at
plain_reads file at n bpp h =
    let a = wants_back (nat_le (at + n * bpp) (length file)) (fault Truncated at) (λ _. Ok (bytes_at file at (n * bpp)))
    (packed file at n bpp 0) h.reads in
    (leb-true (at + n * bpp) (length file) a.0, ok_is [] a.1)

pub unpacked : (file : List ℕ) (at n bpp compression : ℕ) (tile : List ℕ) → IsPacked file at n bpp compression
    → tile_at file at n bpp compression ≡ Ok tile
    → tile ≡ packed file at n bpp compression
unpacked file at n bpp compression tile h e = ok_is [] (sym e ∙ h.reads)

size_of : (file : List ℕ) (at n bpp : ℕ) (tile : List ℕ) (plain : Bool)
    → MatchBool plain (HasBytes file at tile × (length tile ≡ n * bpp)) (IsSpelledTile file at n bpp tile) → length tile ≡ n * bpp
size_of file at n bpp tile true h = h.1
size_of file at n bpp tile false h =
    ap length h.tile_is ∙ length-pieces (λ k. map (λ plane. slice_index plane k) h.planes) bpp
    (λ v. length-map h.planes (λ plane. slice_index plane v) ∙ h.as_many) 0 n

read_is : (r : Read (List ℕ)) → Ok tt ≡ done r → r ≡ Ok (bytes_or_none r)
read_is (Ok x) e = refl
read_is (Err f) e = cc

-- a tile whose codes were walked
pub packed_is : (file : List ℕ) (at n bpp compression : ℕ) → AreBytes file → 1 ≤ n → n ≤ 4096 → 1 ≤ bpp → bpp ≤ 4 → compression ≤ 1
    → Ok tt ≡ done (tile_at file at n bpp compression) → IsPacked file at n bpp compression
unfolding packed
packed_is file at n bpp compression all some few some_bytes few_bytes known e =
    let r = tile_at file at n bpp compression in
    let reads = read_is r e in
    let h = tile_has file at n bpp compression (bytes_or_none r) all (omega (arith, some)) reads in
    record {
      some = some;
      few = few;
      some_bytes = some_bytes;
      few_bytes = few_bytes;
      known = known;
      reads = reads;
      size = size_of file at n bpp (bytes_or_none r) (compression == 0) h.stands;
      bytes = h.bytes;
    }

none_dropped : (bytes : List ℕ) → drop 0 bytes ≡ bytes
none_dropped [] = refl
none_dropped (b ∷ bytes) = refl

-- bytes of its own, which begin with those of the tile
pub own_packed : (bytes : List ℕ) (n bpp : ℕ) → AreBytes bytes → 1 ≤ n → n ≤ 4096 → 1 ≤ bpp → bpp ≤ 4 → n * bpp ≤ length bytes
    → IsPacked bytes 0 n bpp 0
own_packed bytes n bpp all some few some_bytes few_bytes full =
    packed_is bytes 0 n bpp 0 all some few some_bytes few_bytes (omega arith)
    (tile_plain bytes 0 n bpp 0 (Ok tt) refl (plain_there bytes 0 (n * bpp) (omega (arith, full))))

pub own_bytes : (bytes : List ℕ) (n bpp : ℕ) → IsPacked bytes 0 n bpp 0 → packed bytes 0 n bpp 0 ≡ take (n * bpp) bytes
own_bytes bytes n bpp h = sym (plain_reads bytes 0 n bpp h).1 ∙ ap (take (n * bpp)) (none_dropped bytes)

-- a tile that is not plain is in runs
pub in_runs : {file : List ℕ} {at n bpp compression : ℕ} → IsPacked file at n bpp compression → 0 < compression
    → IsPacked file at n bpp 1
in_runs {file = file} {at = at} {n = n} {bpp = bpp} {compression = compression} h some =
    let one : compression ≡ 1 = omega (arith, some, h.known) in subst (IsPacked file at n bpp) one h

-- What is kept of a list that passes no limit is within it.
use Rattle.std.proofs.Common.{◌≡◌, ℕ, ◌+◌, ◌^◌, ◌≤◌, Bool, true, false, cond, List, [], ◌∷◌, length, refl, arith}
use Rattle.std.specs.Prelude.{Option, Some, None, nat_le}
use Rattle.std.proofs.lemmas.Bool.{leb-true}
use Rattle.spec_document.specs.declared.Owner.{Owner}
use Rattle.spec_document.specs.Limits.{interprets}
use Rattle.spec_document.specs.Document.{kept_bytes}
use Rattle.spec_fields.specs.declared.ReadRefused.{ReadRefused}
use Rattle.spec_fields.specs.declared.Kind.TheVariants.{TooLarge}
use Rattle.spec_fields.specs.Reading.{fault}
use Rattle.spec_props.specs.Meaning.{Property, kept_of}
use Rattle.spec_file.specs.Placing.{passes}
use Rattle.spec_file.proofs.Sums.{kept_sum}

went_on : (b : Bool) (next : Option ReadRefused) (refused : ReadRefused) → cond b next (Some refused) ≡ None
    → (b ≡ true) × (next ≡ None)
went_on true next refused e = (refl, e)
went_on false next refused e = cc

together : (b : Bool) (before n rest : ℕ) → cond b before (before + n) + rest ≤ 2 ^ 28 → before + (cond b 0 n + rest) ≤ 2 ^ 28
together true before n rest h = omega (arith, h)
together false before n rest h = omega (arith, h)

pub passes_back : (owner : Owner) (before : ℕ) (ps : List Property) → before ≤ 2 ^ 28 → passes owner before ps ≡ None
    → before + kept_bytes (kept_of owner ps) ≤ 2 ^ 28
passes_back owner before [] h e = omega (arith, h)
passes_back owner before (p ∷ ps) h e =
    let total = cond (interprets owner p.kind) before (before + length p.payload) in
    let a = went_on (nat_le total (2 ^ 28)) (passes owner total ps) (fault TooLarge p.at) e in
    let more = passes_back owner total ps (leb-true total (2 ^ 28) a.0) a.1 in
    let both = together (interprets owner p.kind) before (length p.payload) (kept_bytes (kept_of owner ps)) more in
    omega (arith, both, kept_sum owner p ps (interprets owner p.kind))

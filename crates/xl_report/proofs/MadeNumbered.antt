-- The nodes of the document that is made from a seed are numbered.
use Rattle.std.proofs.Common.{ℕ, refl, arith}
use Rattle.std.specs.List.{IsDistinct}
use Rattle.spec_generated.specs.Generated.{document}
use Rattle.xl_doc.specs.Numbered.{AreNumbered}

pub made_is_numbered : (seed : ℕ) → AreNumbered (document seed).nodes
unfolding IsDistinct
made_is_numbered seed = record {
  distinct = (
    (refl, (refl, (refl, (refl, (refl, (refl, (refl, (refl, (refl, tt))))))))),
    (
      (refl, (refl, (refl, (refl, (refl, (refl, (refl, (refl, tt)))))))),
      (
        (refl, (refl, (refl, (refl, (refl, (refl, (refl, tt))))))),
        (
          (refl, (refl, (refl, (refl, (refl, (refl, tt)))))),
          (
            (refl, (refl, (refl, (refl, (refl, tt))))),
            ((refl, (refl, (refl, (refl, tt)))), ((refl, (refl, (refl, tt))), ((refl, (refl, tt)), ((refl, tt), (tt, tt))))),
          ),
        ),
      ),
    ),
  );
  positive = (
    omega arith,
    (
      omega arith,
      (
        omega arith,
        (omega arith, (omega arith, (omega arith, (omega arith, (omega arith, (omega arith, (omega arith, tt))))))),
      ),
    ),
  );
  within = (
    omega arith,
    (
      omega arith,
      (
        omega arith,
        (omega arith, (omega arith, (omega arith, (omega arith, (omega arith, (omega arith, (omega arith, tt))))))),
      ),
    ),
  );
  few = omega arith;
}

use Rattle.std.proofs.Common.{◌∙◌, ap, sym, List}
use Rattle.std.specs.Prelude.{remove}
use Rattle.xl_fakes.specs.Kept.{Standing, found, is_known}
use Rattle.xl_fakes.proofs.Places.{found_others, known_others}
use Rattle.xl_fakes.proofs.files.take_out.Goals as goal

pub returns-in-Some-clause-known : goal.returns-in-Some-clause-known
returns-in-Some-clause-known c other differ =
    let at = c.in-Some.ensures in
    let same = c.deref.ensures.value in
    known_others _ _ c.in-Some.i _ other (c.remove.ensures.items
    ∙ ap (λ (l : List Standing). remove l c.in-Some.i) (sym same)) at.within at.named differ
    ∙ ap (λ (l : List Standing). is_known l other) (same ∙ c.reserve.ensures.items)

pub returns-in-Some-clause-others : goal.returns-in-Some-clause-others
returns-in-Some-clause-others c other differ =
    let at = c.in-Some.ensures in
    let same = c.deref.ensures.value in
    found_others _ _ c.in-Some.i _ other (c.remove.ensures.items
    ∙ ap (λ (l : List Standing). remove l c.in-Some.i) (sym same)) at.within at.named differ
    ∙ ap (λ (l : List Standing). found l other) (same ∙ c.reserve.ensures.items)

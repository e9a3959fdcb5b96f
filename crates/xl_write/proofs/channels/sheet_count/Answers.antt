use Rattle.std.proofs.Common.{length, ap, arith}
use Rattle.xl_write.proofs.channels.sheet_count.Goals as goal

pub overflow_add-result : goal.overflow_add-result
overflow_add-result c =
    let few = c.requires.few_channels in
    record { fits = omega (arith, few, c.len-in-Some.ensures, ap (λ d. length d.channels) c.doc.view_is) }

pub returns-in-None-clause-few : goal.returns-in-None-clause-few
returns-in-None-clause-few c = omega (arith, c.requires.few_channels, c.len.ensures, ap (λ d. length d.channels) c.doc.view_is)

pub returns-in-Some-clause-few : goal.returns-in-Some-clause-few
returns-in-Some-clause-few c =
    omega (arith, c.requires.few_channels, c.len-in-Some.ensures, ap (λ d. length d.channels) c.doc.view_is)

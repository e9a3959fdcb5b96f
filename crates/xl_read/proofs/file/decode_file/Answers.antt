use Rattle.xl_read.proofs.Decoded.{held, only, refused, limits, numbered}
use Rattle.xl_read.proofs.file.decode_file.Goals as goal

pub returns : goal.returns
returns g c =
    let all = rw (c.as_slice-bytes.ensures.value, c.deref.ensures, c.shared.ensures) at c.know_bytes.ensures in
    let gives = rw (c.as_slice-bytes.ensures.value, c.deref.ensures, c.shared.ensures) at c.whole.ensures in
    record {
      exact = gives;
      held = held _ c.whole.result all gives;
      only = only _ c.whole.result all gives;
      refused = refused _ c.whole.result gives;
      limits = limits _ c.whole.result all gives;
      numbered = numbered _ c.whole.result all gives;
    }

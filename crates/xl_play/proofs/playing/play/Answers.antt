use Rattle.std.proofs.Common.{◌++◌, map, string_bytes, ap, ◌∙◌}
use Rattle.std.proofs.lemmas.Result.{IfOk-from_err}
use Rattle.spec_text.specs.Printed.{order_line, word_of_entry}
use Rattle.xl_script.specs.Lines.{lines_of, lists_of}
use Rattle.xl_play.proofs.OfFirst.{first_few, first_fits}
use Rattle.xl_play.proofs.WholeText.{front_alone, told_alone}
use Rattle.xl_play.proofs.playing.play.Goals as goal

pub first_boxes-boxes-requires : goal.first_boxes-boxes-requires
first_boxes-boxes-requires g c = c.requires.script.boxes

pub play_lines-requires-clause-opened : goal.play_lines-requires-clause-opened
play_lines-requires-clause-opened g c κs within = c.requires.opened

pub play_lines-requires-clause-lines : goal.play_lines-requires-clause-lines
play_lines-requires-clause-lines g c κs within =
    let lines = lines_of c.first_lines-lines.result.items in
    let lists = lists_of c.args.script in
    record {
      short = c.first_boxes-boxes.ensures.short;
      fit = first_fits _ c.args.chest.items lists c.first_boxes-boxes.result.items lines c.requires.script.fits
          c.first_boxes-boxes.ensures.first c.first_lines-lines.ensures;
      few = first_few _ lists lines c.requires.script.fits c.first_lines-lines.ensures;
    }

pub returns-in_err-text : goal.returns-in_err-text
returns-in_err-text g c =
    let played = c.in_err-text.ensures in
    record {
      between = played.between;
      front = front_alone _ (lists_of c.args.script) c.args.chest.items c.first_boxes-boxes.result.items
          (lines_of c.first_lines-lines.result.items) c.play_lines.new.core.history.entries c.first_lines-lines.ensures
          c.first_boxes-boxes.ensures.first played.own played.begun;
      told = IfOk-from_err c.from_residual.result _ c.from_residual.ensures.0;
    }

pub returns-in_err-words : goal.returns-in_err-words
returns-in_err-words g c =
    let played = c.in_ok-text.ensures in
    record {
      between = played.between;
      front = front_alone _ (lists_of c.args.script) c.args.chest.items c.first_boxes-boxes.result.items
          (lines_of c.first_lines-lines.result.items) c.play_lines.new.core.history.entries c.first_lines-lines.ensures
          c.first_boxes-boxes.ensures.first played.own played.begun;
      told = IfOk-from_err c.from_residual-in_err-words.result _ c.from_residual-in_err-words.ensures.0;
    }

pub returns-in_err-print_order : goal.returns-in_err-print_order
returns-in_err-print_order g c =
    let played = c.in_ok-text.ensures in
    record {
      between = played.between;
      front = front_alone _ (lists_of c.args.script) c.args.chest.items c.first_boxes-boxes.result.items
          (lines_of c.first_lines-lines.result.items) c.play_lines.new.core.history.entries c.first_lines-lines.ensures
          c.first_boxes-boxes.ensures.first played.own played.begun;
      told = IfOk-from_err c.from_residual-in_err-print_order.result _ c.from_residual-in_err-print_order.ensures.0;
    }

pub returns : goal.returns
returns g c =
    let core = c.play_lines.new.core in
    let played = c.in_ok-text.ensures in
    let words = c.as_slice.ensures.value ∙ c.in_ok-words.ensures ∙ ap (map word_of_entry) c.entries.ensures in
    let text = c.in_ok-print_order.ensures.ok ∙ ap (λ ws. string_bytes c.in_ok-text.text ++ order_line ws) words in
    let boxes = c.first_boxes-boxes.result.items in
    let lines = lines_of c.first_lines-lines.result.items in
    record {
      between = played.between;
      front = front_alone _ (lists_of c.args.script) c.args.chest.items boxes lines core.history.entries c.first_lines-lines.ensures
          c.first_boxes-boxes.ensures.first played.own played.begun;
      told = told_alone _ core.history.base c.args.core.now.history.base (lists_of c.args.script) c.args.chest.items boxes lines
          core.history.entries (string_bytes c.in_ok-text.text) _ text played.between.base_is c.first_lines-lines.ensures
          c.first_boxes-boxes.ensures.first c.requires.script.first played.played played.made
          (rw c.entries-2.ensures at c.has_save_fault-save_failed.ensures);
    }

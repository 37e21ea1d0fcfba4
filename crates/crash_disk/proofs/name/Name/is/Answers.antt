use Rattle.std.proofs.Common.{sym, ap, ◌∙◌}
use Rattle.std.proofs.lemmas.Map.Text.{is_eq-slice_cmp}
use Rattle.std.specs.Str.{bytes_eq}
use Rattle.crash_disk.proofs.name.Name.is.Goals as goal

pub returns : goal.returns
returns c =
    c.eq.ensures ∙ ap (bytes_eq c.args.text.now) (c.as_str.ensures.value ∙ c.self.view_is)
    ∙ sym (is_eq-slice_cmp c.args.text.now c.args.self.now)

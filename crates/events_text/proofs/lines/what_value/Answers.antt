use Rattle.std.proofs.Common.{◌≡◌, ◌∙◌, ◌+◌, ap, length, string_bytes, arith, ℕ}
use Rattle.events_text.specs.Inside.Cuts.{inner}
use Rattle.events_text.specs.Lines.{text_data}
use Rattle.events_text.proofs.Fronts.{cuts, inside}
use Rattle.events_text.proofs.lines.what_value.Goals as goal

pub inner-requires : goal.inner-requires
inner-requires c =
    omega (
      arith,
      inside c.args.entry.now c.in_ok-line.line (string_bytes c.in_ok-by.by) c.requires c.in_ok-line.ensures.text c.in_ok-by.ensures.ok,
      ap length c.as_slice.ensures,
      c.len.ensures,
    )

pub returns : goal.returns
returns c =
    let line = c.as_slice.result.now in
    let by = string_bytes c.in_ok-by.by in
    let size : c.len.result ≡ length by = omega (arith, c.len.ensures) in
    let cut = cuts c.args.entry.now line by c.requires (c.as_slice.ensures ∙ c.in_ok-line.ensures.text) c.in_ok-by.ensures.ok in
    c.in_ok-text_value.ensures ∙ ap text_data (c.inner.ensures ∙ ap (λ (n : ℕ). inner (n + 1) line) size ∙ cut)

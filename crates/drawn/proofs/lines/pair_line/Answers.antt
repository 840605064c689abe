-- Each part stands behind those before it.
use Rattle.std.proofs.Common.{ℕ, List, ◌++◌, arith, ap, ◌∙◌, append_assoc}
use Rattle.de9im.specs.Bytes.{bytes}
use Rattle.channel.specs.Decimal.{decimal_of}
use Rattle.drawn.proofs.lines.pair_line.Goals as goal

pub returns : goal.returns
returns c =
    let a = c.args in
    let b = c.push_decimal-b.ensures.1 ∙ ap (λ (l : List ℕ). l ++ decimal_of a.i) c.push_refused-a.ensures.1 in
    let s = c.push-c.ensures.out_after ∙ ap (λ (l : List ℕ). l ++ bytes " ") b in
    let d = c.push_decimal-d.ensures.1 ∙ ap (λ (l : List ℕ). l ++ decimal_of a.j) s in (
      omega (arith, c.push_refused-a.ensures.0, c.push_decimal-b.ensures.0, c.push-c.ensures.value, c.push_decimal-d.ensures.0, c.push.ensures.value),
      c.push.ensures.out_after ∙ ap (λ (l : List ℕ). l ++ bytes "\n") d ∙ simp append_assoc,
    )

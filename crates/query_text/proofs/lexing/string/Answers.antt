use Rattle.std.proofs.Common.{◌≡◌, ◌+◌, suc, ap, ◌∙◌, arith}
use Rattle.std.specs.Prelude.{option_map}
use Rattle.query_text.proofs.StringLemmas.{parts, quoted-is}
use Rattle.query_text.proofs.lexing.string.Goals as goal

pub returns-in_err-len : goal.returns-in_err-len
returns-in_err-len c = rw c.from_residual.ensures (ap (option_map (parts c.args.text.now)) c.in_err-len.ensures.len ∙ quoted-is c.args.text.now)

pub returns : goal.returns
returns c =
    let n = c.in_ok-len.len in
    let next : n + 1 ≡ suc n = omega arith in
    rw (c.split_at.ensures.front, c.split_at-2.ensures.back, next)
    (ap (option_map (parts c.args.text.now)) c.in_ok-len.ensures.len ∙ quoted-is c.args.text.now)

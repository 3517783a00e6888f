use Rattle.std.proofs.Common.{◌≡◌, ◌-◌, length, refl, arith}
use Rattle.definitions_queries.specs.Lexing as cuts
use Rattle.definitions_queries.specs.Lexing.{is_white_space, rest_after}
use Rattle.query_text.specs.Views.{kind_view, tokens_view}
use Rattle.query_text.specs.Cuts.{fault_view}
use Rattle.query_text.proofs.CuttingLemmas.{cut-less, length-rest_after, one_more, ended, error_at}
use Rattle.query_text.proofs.lexing.tokens.Goals as goal

pub loop-kind-smaller : goal.loop-kind-smaller
loop-kind-smaller c =
    let e : cuts.cut c.loop-kind.rest.now ≡ cuts.token (kind_view c.in-Ok-Some.kind) c.in-Ok-Some.after.now = rw c.in-Ok-Some.field-0-is at c.in-Ok-Some.ensures in
    let less = cut-less c.loop-kind.rest.now c.in-Ok-Some.after.now _ e in
    rw c.skip_white_space-rest-in-Ok-Some.ensures (omega (arith, less, length-rest_after is_white_space c.in-Ok-Some.after.now))

pub loop-kind-preserved : goal.loop-kind-preserved
loop-kind-preserved c =
    let e : cuts.cut c.loop-kind.rest.now ≡ cuts.token (kind_view c.in-Ok-Some.kind) c.in-Ok-Some.after.now = rw c.in-Ok-Some.field-0-is at c.in-Ok-Some.ensures in
    let less = cut-less c.loop-kind.rest.now c.in-Ok-Some.after.now _ e in
    record {
      within = rw c.skip_white_space-rest-in-Ok-Some.ensures (omega (arith, less, length-rest_after is_white_space c.in-Ok-Some.after.now, c.loop-kind.invariant.within));
      so_far = rw (c.skip_white_space-rest-in-Ok-Some.ensures, c.in_ok-push-in-Ok-Some.ensures.items)
          (one_more (length c.args.text.now) (rest_after is_white_space c.args.text.now) c.loop-kind.rest.now c.in-Ok-Some.after.now c.loop-kind.tokens.items
          (record { at = length c.args.text.now - length c.loop-kind.rest.now; kind = c.in-Ok-Some.kind }) c.loop-kind.invariant.so_far e refl);
    }

pub returns-in-Ok-None : goal.returns-in-Ok-None
returns-in-Ok-None c =
    let e : cuts.cut c.loop-kind.rest.now ≡ cuts.end = rw c.in-Ok-None.field-0-is at c.in-Ok-None.ensures in
    ended (length c.args.text.now) (rest_after is_white_space c.args.text.now) c.loop-kind.rest.now (tokens_view c.loop-kind.tokens.items) c.loop-kind.invariant.so_far e

pub returns-in-Err : goal.returns-in-Err
returns-in-Err c =
    let e : cuts.cut c.loop-kind.rest.now ≡ cuts.fault (fault_view c.in-Err.fault) = rw c.in-Err.fault-is at c.in-Err.ensures in
    rw c.in-Err.fault-is
    (error_at (length c.args.text.now) (rest_after is_white_space c.args.text.now) c.loop-kind.rest.now (tokens_view c.loop-kind.tokens.items)
    (record { at = length c.args.text.now - length c.loop-kind.rest.now; fault = fault_view c.in-Err.fault }) c.loop-kind.invariant.so_far e refl)

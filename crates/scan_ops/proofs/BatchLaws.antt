-- What an emitter took of a list of which the rest waits.
use Rattle.std.proofs.Common.{◌≡◌, ℕ, List, [], ◌++◌, refl, sym, ap, ◌∙◌, subst, append-nil, append_assoc}
use Rattle.scan_ops.specs.Batches.{HoldsWith}
use Rattle.scan_ops.proofs.EmitLaws.{IsPiece}

-- all that waits is a piece of the list
pub waiting_piece : (pushed : List ℕ → Type 0) (waiting list piece : List ℕ) (holds : HoldsWith pushed waiting list) → piece ≡ waiting → IsPiece holds.taken piece list
waiting_piece pushed waiting list piece holds same = record {
  rest = [];
  joins = sym holds.joins ∙ ap (λ (l : List ℕ). holds.taken ++ l) (sym same) ∙ sym (append-nil (holds.taken ++ piece));
}

-- all of the list waits at the start
pub all_waits : (pushed : List ℕ → Type 0) (list : List ℕ) → pushed [] → HoldsWith pushed list list
all_waits pushed list none = record { taken = []; held = none; joins = refl }

-- the first that waits are a piece of the list
pub first_piece : (pushed : List ℕ → Type 0) (waiting list piece after : List ℕ) (holds : HoldsWith pushed waiting list) → waiting ≡ piece ++ after → IsPiece holds.taken piece list
first_piece pushed waiting list piece after holds is = record {
  rest = after;
  joins = sym holds.joins ∙ ap (λ (l : List ℕ). holds.taken ++ l) is ∙ sym (append_assoc holds.taken piece after);
}

-- and with them the emitter took so much more
pub took_piece : (pushed later : List ℕ → Type 0) (waiting list piece after : List ℕ) (holds : HoldsWith pushed waiting list) → waiting ≡ piece ++ after
    → later (holds.taken ++ piece) → HoldsWith later after list
took_piece pushed later waiting list piece after holds is took = record {
  taken = holds.taken ++ piece;
  held = took;
  joins = append_assoc holds.taken piece after ∙ ap (λ (l : List ℕ). holds.taken ++ l) (sym is) ∙ holds.joins;
}

-- where nothing waits, the emitter took all
pub took_all : (pushed : List ℕ → Type 0) (waiting list : List ℕ) → HoldsWith pushed waiting list → waiting ≡ [] → pushed list
took_all pushed waiting list holds none =
    subst pushed (sym (append-nil holds.taken) ∙ ap (λ (l : List ℕ). holds.taken ++ l) (sym none) ∙ holds.joins) holds.held

pub still_waits : (pushed : List ℕ → Type 0) (waiting same list : List ℕ) → waiting ≡ same → HoldsWith pushed waiting list → HoldsWith pushed same list
still_waits pushed waiting same list is holds = subst (λ (w : List ℕ). HoldsWith pushed w list) is holds

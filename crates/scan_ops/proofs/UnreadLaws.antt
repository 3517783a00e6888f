-- What is left of a list that is read a block at a time.
use Rattle.std.proofs.Common.{◌≡◌, ℕ, ◌+◌, ◌*◌, ◌≤◌, List, [], ◌++◌, length, take, drop, not, refl, sym, ap, ap₂, ◌∙◌, subst, arith, length-append}
use Rattle.std.proofs.lemmas.List.{drop_all, drop-drop, length-drop, take-append-drop}
use Rattle.std.proofs.lemmas.List.Filters.{length-filter_both}
use Rattle.definitions_blocks.specs.Blocks.{block_values, block_at}
use Rattle.definitions_operators.specs.Operators.{has, intersect, union}
use Rattle.definitions_operators.specs.Positions.{Rises}
use Rattle.definitions_operators.specs.Costs.{block_count}
use Rattle.scan_ops.specs.declared.unread.Unread.{Unread}
use Rattle.scan_ops.specs.Unread.{left_of, IsUnread}
use Rattle.scan_ops.specs.Batches.{HoldsWith}
use Rattle.scan_ops.proofs.BatchLaws.{still_waits}
use Rattle.scan_ops.proofs.SetLaws.{rises-left, union-nothing}

-- what is left, of the parts of what is unread
abbrev pub left_in : List ℕ → List ℕ → ℕ → ℕ → List ℕ
left_in list block used next = drop used block ++ drop (next * block_values) list

-- the next block and all behind it is what is left, where all that was held is used
pub left-next : (list block : List ℕ) (used next : ℕ) → length block ≤ used → left_in list (block_at list next) 0 (next + 1) ≡ left_in list block used next
left-next list block used next all =
    let at = next * block_values in
    let further : at + block_values ≡ (next + 1) * block_values = omega arith in
    ap (λ n. block_at list next ++ drop n list) (sym further)
    ∙ ap (λ (l : List ℕ). block_at list next ++ l) (sym (drop-drop block_values at list))
    ∙ take-append-drop block_values (drop at list)
    ∙ ap (λ (l : List ℕ). l ++ drop at list) (sym (drop_all used block all))

-- some values more that are used
pub left-used : (list block : List ℕ) (used count next : ℕ) → drop count (drop used block) ++ drop (next * block_values) list ≡ left_in list block (used + count) next
left-used list block used count next = ap (λ (l : List ℕ). l ++ drop (next * block_values) list) (drop-drop count used block)

pub left-shorter : (list block : List ℕ) (used count next : ℕ) → used + count ≤ length block
    → length (left_in list block (used + count) next) + count ≡ length (left_in list block used next)
left-shorter list block used count next within =
    let behind = drop (next * block_values) list in
    omega (arith, length-append (drop (used + count) block) behind, length-append (drop used block) behind, length-drop (used + count) block, length-drop used block)

pub values-fit : (block values : List ℕ) (used count : ℕ) → used ≤ length block → values ≡ drop used block → count ≤ length values → used + count ≤ length block
values-fit block values used count within is few = omega (arith, ap length is, length-drop used block)

abbrev pub used_more : Unread → ℕ → Unread
used_more unread count = record { block = unread.block; used = unread.used + count; next = unread.next; blocks = unread.blocks }

pub unread-more : {list now values : List ℕ} (unread : Unread) (count : ℕ) → now ≡ list → IsUnread now unread → values ≡ drop unread.used unread.block → count ≤ length values
    → IsUnread list (used_more unread count)
unread-more {list} {now} {values} unread count same is held few = record {
  few = omega (arith, ap length same, is.few);
  short = is.short;
  used = values-fit unread.block values unread.used count is.used held few;
  next = is.next;
  blocks = is.blocks ∙ ap block_count same;
}

pub left-kept : {list now : List ℕ} (before unread : Unread) → now ≡ list → left_of now unread ≡ left_of now before → left_of list unread ≡ left_of list before
left-kept {list} {now} before unread same left = subst (λ (l : List ℕ). left_of l unread ≡ left_of l before) same left

pub left-ended : {list now : List ℕ} (before unread : Unread) → now ≡ list → left_of now unread ≡ left_of now before → left_of now unread ≡ [] → left_of list before ≡ []
left-ended {list} {now} before unread same left none =
    sym (left-kept before unread same left) ∙ subst (λ (l : List ℕ). left_of l unread ≡ []) same none

-- after some values more that are used, what is left rises still
pub left-rises : {list now values : List ℕ} (before unread : Unread) (count : ℕ) → now ≡ list → left_of now unread ≡ left_of now before → values ≡ drop unread.used unread.block
    → count ≤ length values → Rises (left_of list before) → Rises (left_of list (used_more unread count))
left-rises {list} {now} {values} before unread count same left held few rises =
    let behind = drop (unread.next * block_values) list in
    subst Rises (left-used list unread.block unread.used count unread.next)
    (rises-left count (drop unread.used unread.block) behind (omega (arith, ap length held))
    (subst Rises (sym (left-kept before unread same left)) rises))

-- what is left of a list begins with the values that are held
pub left-held : {list now values : List ℕ} (before unread : Unread) (all : ℕ) → now ≡ list → left_of now unread ≡ left_of now before → values ≡ drop unread.used unread.block
    → all ≡ length unread.block → left_of list before ≡ values ++ left_in list unread.block all unread.next
left-held {list} {now} {values} before unread all same left held is =
    let behind = drop (unread.next * block_values) list in
    sym (left-kept before unread same left)
    ∙ ap (λ (l : List ℕ). l ++ behind) (sym held)
    ∙ ap (λ (l : List ℕ). values ++ (l ++ behind)) (sym (drop_all all unread.block (omega (arith, is))))

-- one round: of the values that are held, some are used and give a piece, and what is left gives the rest
pub round : {left right now_left now_right values others : List ℕ} (combine : List ℕ → List ℕ → List ℕ) (out : List ℕ) (before_left before_right unread_left unread_right : Unread) (p q kept : ℕ)
    → now_left ≡ left → now_right ≡ right
    → left_of now_left unread_left ≡ left_of now_left before_left → left_of now_right unread_right ≡ left_of now_right before_right
    → Rises (left_of left before_left) → Rises (left_of right before_right)
    → values ≡ drop unread_left.used unread_left.block → others ≡ drop unread_right.used unread_right.block
    → ((later behind : List ℕ) → Rises (values ++ later) → Rises (others ++ behind)
    → combine (values ++ later) (others ++ behind) ≡ take kept out ++ combine (drop p values ++ later) (drop q others ++ behind))
    → combine (left_of left before_left) (left_of right before_right) ≡ take kept out ++ combine (left_of left (used_more unread_left p)) (left_of right (used_more unread_right q))
round {left} {right} {now_left} {now_right} {values} {others} combine out before_left before_right unread_left unread_right p q kept same_left same_right first second up_left up_right held also whole =
    let later = drop (unread_left.next * block_values) left in
    let behind = drop (unread_right.next * block_values) right in
    let at_left : left_of left before_left ≡ values ++ later = sym (left-kept before_left unread_left same_left first) ∙ ap (λ (l : List ℕ). l ++ later) (sym held) in
    let at_right : left_of right before_right ≡ others ++ behind =
    sym (left-kept before_right unread_right same_right second) ∙ ap (λ (l : List ℕ). l ++ behind) (sym also) in
    let rest_left : drop p values ++ later ≡ left_of left (used_more unread_left p) =
    ap (λ (l : List ℕ). drop p l ++ later) held ∙ left-used left unread_left.block unread_left.used p unread_left.next in
    let rest_right : drop q others ++ behind ≡ left_of right (used_more unread_right q) =
    ap (λ (l : List ℕ). drop q l ++ behind) also ∙ left-used right unread_right.block unread_right.used q unread_right.next in
    ap₂ combine at_left at_right
    ∙ whole later behind (subst Rises at_left up_left) (subst Rises at_right up_right)
    ∙ ap (λ (l : List ℕ). take kept out ++ l) (ap₂ combine rest_left rest_right)

pub intersect-few : (left right : List ℕ) → length (intersect left right) ≤ length left
intersect-few left right = omega (arith, length-filter_both (has right) (λ x. not (has right x)) (λ x. refl) left)

-- all that is held is used
abbrev pub used_all : Unread → ℕ → Unread
used_all unread all = record { block = unread.block; used = all; next = unread.next; blocks = unread.blocks }

pub unread-all : {list now : List ℕ} (unread : Unread) (all : ℕ) → now ≡ list → IsUnread now unread → all ≡ length unread.block → IsUnread list (used_all unread all)
unread-all {list} {now} unread all same is all_held = record {
  few = omega (arith, ap length same, is.few);
  short = is.short;
  used = omega arith;
  next = is.next;
  blocks = is.blocks ∙ ap block_count same;
}

-- with nothing left of the right list, what is left of the left one waits
pub left-waits : {pushed : List ℕ → Type 0} {left right whole now source now_right : List ℕ} (before first before_right second : Unread)
    → now ≡ left → source ≡ now → left_of now first ≡ left_of now before
    → now_right ≡ right → left_of now_right second ≡ left_of now_right before_right → left_of now_right second ≡ []
    → Rises (left_of left before) → HoldsWith pushed (union (left_of left before) (left_of right before_right)) whole → HoldsWith pushed (left_of source first) whole
left-waits {pushed} {left} {right} {whole} {now} {source} before first before_right second same source_same held same_right held_right none rises waits =
    let rest = left_of left before in
    still_waits pushed (union rest (left_of right before_right)) (left_of source first) whole
    (ap (union rest) (left-ended before_right second same_right held_right none) ∙ union-nothing rest rises
    ∙ sym (left-kept before first same held) ∙ ap (λ (l : List ℕ). left_of l first) (sym (source_same ∙ same)))
    waits

-- with nothing left of the left list, what is left of the right one waits
pub right-waits : {pushed : List ℕ → Type 0} {left right whole now now_right : List ℕ} (before first before_right : Unread)
    → now ≡ left → left_of now first ≡ left_of now before → left_of now first ≡ []
    → now_right ≡ right → HoldsWith pushed (union (left_of left before) (left_of right before_right)) whole → HoldsWith pushed (left_of now_right before_right) whole
right-waits {pushed} {left} {right} {whole} {now} {now_right} before first before_right same held none same_right waits =
    still_waits pushed (union (left_of left before) (left_of right before_right)) (left_of now_right before_right) whole
    (ap (λ (l : List ℕ). union l (left_of right before_right)) (left-ended before first same held none) ∙ ap (λ (l : List ℕ). left_of l before_right) (sym same_right))
    waits

-- What was sent to each node, as rows: what is found there, and what a message makes of it.
use Rattle.std.proofs.Common.{Bool, List, None, Option, Some, [], ap, arith, cond, eqb, false, ltb, refl, subst, sym, true, ℕ, ◌<◌, ◌∙◌, ◌∷◌, ◌≡◌}
use Rattle.std.proofs.lemmas.Bool.Decides.{nat_tests}
use Rattle.std.proofs.lemmas.Map.Steps.{set_value_same}
use Rattle.std.specs.BTreeMap.{insert_entry, is_at}
use Rattle.std.specs.Map.{lookup, remove_entry, set_value}
use Rattle.std.specs.Option.{option_map}
use Rattle.std.specs.Ordering.{is_eq, match_ordering, nat_cmp}
use Rattle.std.specs.Prelude.{Err, IfOk, Ok, OnErr, OnOk, is_some, map}
use Rattle.std.specs.declared.cmp.Ordering.TheVariants.{Equal, Greater, Less}
use Rattle.std.specs.declared.cmp.Ordering.{Ordering}
use Rattle.std.specs.declared.result.Result.{Result}
use Rattle.swarm_assign.specs.Inside.Counted.{AreTold, EachTold, told_after}
use Rattle.swarm_assign.specs.Sents.{after_message, sent_count, sent_row}
use Rattle.swarm_assign.specs.Told.{Told, sent_to}
use Rattle.swarm_objects.proofs.MapEntries.{entries-rise, lookup-entry, put-rising, remove-rising, set-entry, set-rising}
use Rattle.swarm_objects.proofs.RowChanges.{rising_from}
use Rattle.swarm_objects.proofs.RowLemmas.{change_row_above, row_at-None_below}
use Rattle.swarm_objects.specs.Agents.Messages.{next_message}
use Rattle.swarm_objects.specs.Rows.{IsRising, change_row, on_row, row_at, sent_node, with_row}
use Rattle.swarm_objects.specs.declared.messages.Assigned.{Assigned}
use Rattle.swarm_objects.specs.declared.messages.Message.{Message}
use Rattle.swarm_objects.specs.declared.messages.NodeSent.{NodeSent}
use Rattle.swarm_objects.specs.declared.names.NoMemory.{NoMemory}

abbrev Entries : Type 0
Entries = List (ℕ × Told)

-- Something was sent to each.

at-told : (node : ℕ) (told : Told) (es : Entries) → Some told ≡ lookup (is_at (nat_cmp node)) es → EachTold es →
    0 < told.count
at-told node told [] at all = absurd cc
at-told node told (e ∷ es) at all = go (is_eq (nat_cmp node e.0)) at (λ rest. at-told node told es rest all.1)
  where
    go : (b : Bool) → Some told ≡ cond b (Some e.1) (lookup (is_at (nat_cmp node)) es) →
        (Some told ≡ lookup (is_at (nat_cmp node)) es → 0 < told.count) → 0 < told.count
    go true at rest = let same : e.1 ≡ told = cc in subst (λ (t : Told). 0 < t.count) same all.0
    go false at rest = rest at

set-told : (node : ℕ) (told : Told) (es : Entries) → 0 < told.count → EachTold es →
    EachTold (set_value (is_at (nat_cmp node)) es told)
set-told node told [] some all = tt
set-told node told (e ∷ es) some all = go (is_eq (nat_cmp node e.0)) (set-told node told es some all.1)
  where
    go : (b : Bool) → EachTold (set_value (is_at (nat_cmp node)) es told) →
        EachTold (cond b ((e.0, told) ∷ es) (e ∷ set_value (is_at (nat_cmp node)) es told))
    go true rest = (some, all.1)
    go false rest = (all.0, rest)

put-told : (node : ℕ) (told : Told) (es : Entries) → 0 < told.count → EachTold es →
    EachTold (insert_entry nat_cmp es node told)
put-told node told [] some all = (some, tt)
put-told node told (e ∷ es) some all = go (nat_cmp node e.0) (put-told node told es some all.1)
  where
    go : (o : Ordering) → EachTold (insert_entry nat_cmp es node told) →
        EachTold (match_ordering o ((node, told) ∷ e ∷ es) ((e.0, told) ∷ es) (e ∷ insert_entry nat_cmp es node told))
    go Less rest = (some, all)
    go Equal rest = (some, all.1)
    go Greater rest = (all.0, rest)

remove-told : (node : ℕ) (es : Entries) → EachTold es → EachTold (remove_entry (is_at (nat_cmp node)) es)
remove-told node [] all = tt
remove-told node (e ∷ es) all = go (is_eq (nat_cmp node e.0)) (remove-told node es all.1)
  where
    go : (b : Bool) → EachTold (remove_entry (is_at (nat_cmp node)) es) →
        EachTold (cond b es (e ∷ remove_entry (is_at (nat_cmp node)) es))
    go true rest = all.1
    go false rest = (all.0, rest)

pub removed : (node : ℕ) (es : Entries) → AreTold es → AreTold (remove_entry (is_at (nat_cmp node)) es)
removed node es are =
    record { rising = remove-rising node es are.rising; told = remove-told node es are.told }

-- What was sent to one.

some-to : (node : ℕ) (told : Told) → 0 < told.count → sent_to node told ≡ Some (sent_row (node, told))
some-to node told some =
    let other : eqb told.count 0 ≡ false = grind (arith, nat_tests, some) in
    ap (λ (b : Bool). cond b None (Some (sent_row (node, told)))) other

to-some : (node : ℕ) (told : Told) (s : NodeSent) → sent_to node told ≡ Some s →
    (0 < told.count) × (sent_row (node, told) ≡ s)
to-some node told s is = go (eqb told.count 0) refl is
  where
    go : (b : Bool) → eqb told.count 0 ≡ b → cond b None (Some (sent_row (node, told))) ≡ Some s →
        (0 < told.count) × (sent_row (node, told) ≡ s)
    go true q is = absurd cc
    go false q is = (grind (arith, nat_tests, q), cc)

pub row-of : (node : ℕ) (es : Entries) →
    option_map (λ (t : Told). sent_row (node, t)) (lookup (is_at (nat_cmp node)) es) ≡ row_at sent_node node (map sent_row es)
row-of node es = lookup-entry sent_node sent_row (λ e. refl) node es

row-told : (node : ℕ) (told : Told) (es : Entries) → Some told ≡ lookup (is_at (nat_cmp node)) es →
    row_at sent_node node (map sent_row es) ≡ Some (sent_row (node, told))
row-told node told es at = sym (row-of node es) ∙ ap (option_map (λ (t : Told). sent_row (node, t))) (sym at)

pub sent-at : (node : ℕ) (told : Told) (es : Entries) → AreTold es → Some told ≡ lookup (is_at (nat_cmp node)) es →
    sent_to node told ≡ row_at sent_node node (map sent_row es)
sent-at node told es are at =
    some-to node told (at-told node told es at are.told) ∙ sym (row-told node told es at)

pub none-at : (node : ℕ) (es : Entries) → None ≡ lookup (is_at (nat_cmp node)) es →
    row_at sent_node node (map sent_row es) ≡ None
none-at node es at = sym (row-of node es) ∙ ap (option_map (λ (t : Told). sent_row (node, t))) (sym at)

pub count-at : (node : ℕ) (told : Told) (es : Entries) → Some told ≡ lookup (is_at (nat_cmp node)) es →
    sent_count node (map sent_row es) ≡ told.count
count-at node told es at = ap (on_row 0 (λ (s : NodeSent). s.count)) (row-told node told es at)

pub due-told : (node : ℕ) (due : List Assigned) (is_due : Bool) (told : Told) (es : Entries) (rows : List NodeSent) →
    map sent_row es ≡ rows → AreTold es → Some told ≡ lookup (is_at (nat_cmp node)) es →
    is_due ≡ is_some (next_message (sent_to node told) due) →
    is_due ≡ is_some (next_message (row_at sent_node node rows) due)
due-told node due is_due told es rows view are at is =
    is ∙ ap (λ (o : Option NodeSent). is_some (next_message o due))
    (sent-at node told es are at ∙ ap (row_at sent_node node) view)

pub due-first : (node : ℕ) (due : List Assigned) (es : Entries) (rows : List NodeSent) → map sent_row es ≡ rows →
    None ≡ lookup (is_at (nat_cmp node)) es → true ≡ is_some (next_message (row_at sent_node node rows) due)
due-first node due es rows view at =
    ap (λ (o : Option NodeSent). is_some (next_message o due))
    (sym (none-at node es at) ∙ ap (row_at sent_node node) view)

-- A message.

-- a row that is there is put in its own place
put-there : {X : Type 0} (key : X → ℕ) (new x : X) (rows : List X) → IsRising key rows →
    row_at key (key new) rows ≡ Some x → change_row key (key new) (λ _. new) rows ≡ with_row key new rows
put-there key new x [] rises at = absurd cc
put-there {X} key new x (y ∷ rows) rises at =
    go (ltb (key new) (key y)) refl (eqb (key new) (key y)) refl (eqb (key y) (key new)) refl at
    (λ rest. put-there key new x rows (rising_from key (key y) rows rises) rest)
  where
    go : (a : Bool) → ltb (key new) (key y) ≡ a → (b : Bool) → eqb (key new) (key y) ≡ b →
        (c : Bool) → eqb (key y) (key new) ≡ c → cond c (Some y) (row_at key (key new) rows) ≡ Some x →
        (row_at key (key new) rows ≡ Some x → change_row key (key new) (λ _. new) rows ≡ with_row key new rows) →
        cond c new y ∷ change_row key (key new) (λ _. new) rows
        ≡ cond a (new ∷ y ∷ rows) (cond b (new ∷ rows) (y ∷ with_row key new rows))
    go true p b q true r at rest = absurd (grind (arith, nat_tests, p, r))
    go true p b q false r at rest =
        let none = row_at-None_below key (key y) (key new) rows rises (grind (arith, nat_tests, p)) in
        absurd (let wrong : None ≡ Some x = sym none ∙ at in cc)
    go false p true q true r at rest =
        ap (λ (xs : List X). new ∷ xs)
        (change_row_above key (key y) (key new) (λ _. new) rows rises (grind (arith, nat_tests, q)))
    go false p true q false r at rest = absurd (grind (arith, nat_tests, q, r))
    go false p false q true r at rest = absurd (grind (arith, nat_tests, q, r))
    go false p false q false r at rest = ap (λ (xs : List X). y ∷ xs) (rest at)

-- the node was told more, and is still told something
more : (node : ℕ) (due : List Assigned) (m : Option Message) (before after : Told) → 0 < before.count →
    sent_to node after ≡ told_after node due m (sent_to node before) → 0 < after.count
more node due None before after some is =
    (to-some node after (sent_row (node, before)) (is ∙ some-to node before some)).0
more node due (Some m) before after some is = (to-some node after _ is).0

told-again : (node : ℕ) (due : List Assigned) (m : Option Message) (before after : Told) (es : Entries) → AreTold es →
    Some before ≡ lookup (is_at (nat_cmp node)) es →
    sent_to node after ≡ told_after node due m (sent_to node before) → AreTold (set_value (is_at (nat_cmp node)) es after)
told-again node due m before after es are at is = record {
  rising = set-rising node after es are.rising;
  told = set-told node after es (more node due m before after (at-told node before es at are.told) is) are.told;
}

-- the same one in its own place
set-same : (node : ℕ) (before after : Told) (es : Entries) → Some before ≡ lookup (is_at (nat_cmp node)) es →
    after ≡ before → set_value (is_at (nat_cmp node)) es after ≡ es
set-same node before after es at is =
    ap (set_value (is_at (nat_cmp node)) es) is ∙ set_value_same (is_at (nat_cmp node)) es before (sym at)

pub kept-told : (node : ℕ) (due : List Assigned) (r : Result (Option Message) NoMemory) (before after : Told) (es new : Entries) →
    AreTold es → Some before ≡ lookup (is_at (nat_cmp node)) es → new ≡ set_value (is_at (nat_cmp node)) es after →
    IfOk r (λ m. (k : ℕ) → sent_to k after ≡ told_after k due m (sent_to k before)) → OnErr r (after ≡ before) →
    AreTold new
kept-told node due (Ok m) before after es new are at set told same =
    subst AreTold (sym set) (told-again node due m before after es are at (told node))
kept-told node due (Err e) before after es new are at set told same =
    subst AreTold (sym (set ∙ set-same node before after es at same)) are

rows-again : (node : ℕ) (due : List Assigned) (m : Option Message) (before after : Told) (es : Entries) → AreTold es →
    Some before ≡ lookup (is_at (nat_cmp node)) es →
    sent_to node after ≡ told_after node due m (sent_to node before) →
    map sent_row (set_value (is_at (nat_cmp node)) es after) ≡ after_message node due m (map sent_row es)
rows-again node due None before after es are at is =
    let some = at-told node before es at are.told in
    let same : sent_row (node, after) ≡ sent_row (node, before) =
    (to-some node after (sent_row (node, before)) (is ∙ some-to node before some)).1 in
    set-entry sent_node sent_row (λ e. refl) node after es are.rising
    ∙ ap (λ (s : NodeSent). change_row sent_node node (λ _. s) (map sent_row es)) same
    ∙ sym (set-entry sent_node sent_row (λ e. refl) node before es are.rising)
    ∙ ap (map sent_row) (set-same node before before es at refl)
rows-again node due (Some m) before after es are at is =
    let new : NodeSent = record { node = node; count = m.results_in; tasks = due } in
    set-entry sent_node sent_row (λ e. refl) node after es are.rising
    ∙ ap (λ (s : NodeSent). change_row sent_node node (λ _. s) (map sent_row es)) (to-some node after new is).1
    ∙ put-there sent_node new (sent_row (node, before)) (map sent_row es)
    (entries-rise sent_node sent_row (λ e. refl) es are.rising) (row-told node before es at)

-- the rows after the message, or as they were where memory was wanting

pub rows-told : (node : ℕ) (due : List Assigned) (r : Result (Option Message) NoMemory) (before after : Told) (es new : Entries)
    (rows : List NodeSent) → map sent_row es ≡ rows → AreTold es → Some before ≡ lookup (is_at (nat_cmp node)) es →
    new ≡ set_value (is_at (nat_cmp node)) es after →
    IfOk r (λ m. (k : ℕ) → sent_to k after ≡ told_after k due m (sent_to k before)) →
    IfOk r (λ m. map sent_row new ≡ after_message node due m rows)
rows-told node due (Ok m) before after es new rows view are at set told =
    ap (map sent_row) set ∙ rows-again node due m before after es are at (told node) ∙ ap (after_message node due m) view
rows-told node due (Err e) before after es new rows view are at set told = tt

pub rows-kept : (node : ℕ) (r : Result (Option Message) NoMemory) (before after : Told) (es new : Entries)
    (rows : List NodeSent) → map sent_row es ≡ rows → Some before ≡ lookup (is_at (nat_cmp node)) es →
    new ≡ set_value (is_at (nat_cmp node)) es after → OnErr r (after ≡ before) → OnErr r (map sent_row new ≡ rows)
rows-kept node (Ok m) before after es new rows view at set same = tt
rows-kept node (Err e) before after es new rows view at set same =
    ap (map sent_row) (set ∙ set-same node before after es at same) ∙ view

pub message-told : (node : ℕ) (due : List Assigned) (r : Result (Option Message) NoMemory) (before : Told)
    (o : Option NodeSent) → sent_to node before ≡ o → IfOk r (λ m. (k : ℕ) → m ≡ next_message (sent_to k before) due) →
    IfOk r (λ m. m ≡ next_message o due)
message-told node due (Ok m) before o same is = is node ∙ ap (λ (s : Option NodeSent). next_message s due) same
message-told node due (Err e) before o same is = tt

pub message-first : (due : List Assigned) (r : Result (Option Message) NoMemory) (o : Option NodeSent) → o ≡ None →
    IfOk r (λ m. m ≡ next_message None due) → IfOk r (λ m. m ≡ next_message o due)
message-first due (Ok m) o none is = is ∙ ap (λ (s : Option NodeSent). next_message s due) (sym none)
message-first due (Err e) o none is = tt

-- The first message of a session.

first-told : (node : ℕ) (due : List Assigned) (m : Option Message) (after : Told) → m ≡ next_message None due →
    sent_to node after ≡ told_after node due m None →
    (0 < after.count)
    × ((rows : List NodeSent) → with_row sent_node (sent_row (node, after)) rows ≡ after_message node due m rows)
first-told node due None after first is = absurd cc
first-told node due (Some m) after first is =
    let told = to-some node after (record { node = node; count = m.results_in; tasks = due }) is in
    (told.0, λ rows. ap (λ (s : NodeSent). with_row sent_node s rows) told.1)

-- from what was none
pub first-some : (node : ℕ) (due : List Assigned) (m : Option Message) (none after : Told) →
    none ≡ record { count = 0; tasks = [] } → ((k : ℕ) → m ≡ next_message (sent_to k none) due) →
    ((k : ℕ) → sent_to k after ≡ told_after k due m (sent_to k none)) → 0 < after.count
first-some node due m none after is first told =
    (first-told node due m after (first node ∙ ap (λ (t : Told). next_message (sent_to node t) due) is)
    (told node ∙ ap (λ (t : Told). told_after node due m (sent_to node t)) is)).0

pub first-rows : (node : ℕ) (due : List Assigned) (m : Option Message) (none after : Told) (rows : List NodeSent) →
    none ≡ record { count = 0; tasks = [] } → ((k : ℕ) → m ≡ next_message (sent_to k none) due) →
    ((k : ℕ) → sent_to k after ≡ told_after k due m (sent_to k none)) →
    with_row sent_node (sent_row (node, after)) rows ≡ after_message node due m rows
first-rows node due m none after rows is first told =
    (first-told node due m after (first node ∙ ap (λ (t : Told). next_message (sent_to node t) due) is)
    (told node ∙ ap (λ (t : Told). told_after node due m (sent_to node t)) is)).1 rows

pub put-kept : {A B : Type 0} (node : ℕ) (es new : Entries) (told : Told) (o : Result A B) → AreTold es → 0 < told.count →
    OnOk o (new ≡ insert_entry nat_cmp es node told) → OnErr o (new ≡ es) → AreTold new
put-kept node es new told (Ok done) are some put same = subst AreTold (sym put) (record {
  rising = put-rising node told es are.rising;
  told = put-told node told es some are.told;
})
put-kept node es new told (Err e) are some put same = subst AreTold (sym same) are

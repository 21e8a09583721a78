-- The script of a number: nodes and services whose sizes are drawn from it, updates, and a node that fails.
use Rattle.std.specs.Prelude.{ℕ, zero, suc, ◌+◌, ◌-◌, ◌*◌, List, [], ◌∷◌, ◌++◌, flat_map, codes, decimal}
use Rattle.script_maker.specs.Draws.{draw, given, next_state, state_after}

-- the greatest number that has a script
abbrev pub most_number : ℕ
most_number = 2147483647

-- Lines that say nothing drawn.

unfoldable pub wait_line : ℕ → List ℕ
wait_line ms = codes "wait " ++ decimal ms ++ codes "\n"

unfoldable pub settle_line : List ℕ
settle_line = codes "settle\n"

-- The line of the i-th object, by the numbers that are drawn for it.

-- tasks are spread over the zones
unfoldable pub by_zone : List ℕ
by_zone = codes " spread=node.labels.zone"

-- how many tasks, and what each needs
unfoldable pub sizes : ℕ → ℕ → List ℕ
sizes more size = codes " replicas=" ++ decimal (1 + more) ++ codes " cpu=" ++ decimal (100 * size)

-- what an update changes beside the sizes
unfoldable pub changed : List ℕ
changed = codes " start=2" ++ by_zone ++ codes " parallelism=2\n"

abbrev pub node_line : ℕ → ℕ → ℕ → List ℕ
node_line i size zone =
    codes "node join n" ++ decimal i ++ codes " cpu=" ++ decimal (1000 * (2 + size)) ++ codes " label=zone:z"
    ++ decimal zone ++ codes "\n"

abbrev pub service_line : ℕ → ℕ → ℕ → List ℕ
service_line i more size = codes "service create s" ++ decimal i ++ sizes more size ++ by_zone ++ codes "\n"

abbrev pub update_line : ℕ → ℕ → ℕ → List ℕ
update_line i more size = codes "service update s" ++ decimal i ++ sizes more size ++ changed

-- the node fails
abbrev pub fail_line : ℕ → List ℕ
fail_line node = codes "node fail n" ++ decimal (1 + node) ++ codes "\n"

-- Lines with draws from a state.

-- 1 to the number
abbrev pub numbers : ℕ → List ℕ
numbers zero = []
numbers (suc n) = numbers n ++ suc n ∷ []

-- the i-th line: two numbers below these limits are drawn for each
abbrev pub drawn_line : (ℕ → ℕ → ℕ → List ℕ) → ℕ → ℕ → ℕ → ℕ → List ℕ
drawn_line line a b x i = line i (draw x (2 * i - 1) a) (draw x (2 * i) b)

-- so many lines
unfoldable pub drawn_lines : (ℕ → ℕ → ℕ → List ℕ) → ℕ → ℕ → ℕ → ℕ → List ℕ
drawn_lines line a b x count = flat_map (drawn_line line a b x) (numbers count)

-- a drawn node fails, and time goes by before and after
abbrev pub failure : ℕ → List ℕ
failure node = wait_line 30000 ++ fail_line node ++ wait_line 30000 ++ settle_line ++ codes "list services\n"

abbrev pub script_text : ℕ → List ℕ
script_text number =
    let second = state_after 40 number in
    let third = state_after 100 second in
    let last = state_after 20 third in
    drawn_lines node_line 7 4 number 20 ++ settle_line
    ++ drawn_lines service_line 5 6 second 50 ++ wait_line 1000
    ++ drawn_lines update_line 5 6 third 10 ++ failure (given (next_state last) 20)

-- A single caller's history that follows lines, and goes on by the settle test, is the serial one.
use Rattle.std.proofs.Common.{◌≡◌, ◌+◌, ◌<◌, ◌⊎◌, inl, inr, List, [], ◌∷◌, ◌++◌, Bool, true, false, refl, Option, Some, None, sym, ◌∙◌, ap, subst, append_assoc, append-nil, arith}
use Rattle.std.proofs.lemmas.List.{append_cancel_right}
use Rattle.swarm_model.proofs.Base.Histories.{replay-append}
use Rattle.swarm_model.proofs.Following.Alone.{AreAlone, AreOwn, alone_first, alone_join, alone_rest, line_alone, named_are, none_left, of_callers, one_call, own_all, own_append, waited_is}
use Rattle.swarm_model.proofs.Following.Beginning.{Begins, Stops, begins_more, named_part, stops_before, waited_part, waited_stops}
use Rattle.swarm_model.proofs.Following.Kept.{seen_alone}
use Rattle.swarm_model.proofs.Following.Lines.{FollowsLines, halt_alone, halt_begins, halt_ends, lines_run, run_follows, world_after}
use Rattle.swarm_model.specs.Follows.{FollowsFrom, IsLine, IsPart, entries_of_strides, left_after}
use Rattle.swarm_model.specs.History.{replay, replay_from}
use Rattle.swarm_model.specs.OneCaller.{AreLinesAlone, FollowsAlone, IsLineAlone, IsPartAlone, SerialLaw, SerialPartLaw, SerialUndoneLaw}
use Rattle.swarm_model.specs.Script.{Asked, Asks, Nothing, Settles, Waits, full_stretch, is_busy, own_call, own_duties}
use Rattle.swarm_model.specs.Serial.{AreSerial, BeginsNext, StopsSerial, asked_entries, entries, entries_from, serial, settle_entries, wait_entries}
use Rattle.swarm_model.specs.Undone.{IsUndone, IsUndoneFrom, SeesBusy}
use Rattle.swarm_objects.specs.World.{World, empty_world}
use Rattle.swarm_objects.specs.declared.calls.Call.TheVariants as call
use Rattle.swarm_objects.specs.declared.calls.Entry.{Entry}

abbrev halt : List Entry
halt = own_call call.Halt ∷ []

-- Lines.

line_is : (w : World) (line : Asked) (part rest : List Entry) → AreAlone w part → (is : IsLine w line part rest) →
    IsLineAlone w line part rest is → part ≡ asked_entries w line
line_is w Nothing part rest all is alone = is
line_is w (Asks c) part rest all is alone =
    let first = own_append is.others (own_call c ∷ []) (subst AreOwn is.entries all.own) in
    is.entries
    ∙ ap (λ (l : List Entry). l ++ own_call c ∷ []) (none_left is.others first.0 is.are_others.0 is.are_others.1)
line_is w (Settles budget) part rest all is alone =
    let asks = own_call (call.Settle budget) ∷ [] in
    let first = alone_first w is.duties asks (subst (AreAlone w) is.entries all) in
    is.entries
    ∙ ap (λ (l : List Entry). l ++ asks)
    (named_are budget w is.duties first is.are_duties is.most
    (λ less. idle (is_busy (replay_from w is.duties)) refl less))
  where
    idle : (b : Bool) → is_busy (replay_from w is.duties) ≡ b → own_duties is.duties < budget →
        is_busy (replay_from w is.duties) ≡ false
    idle true e less = absurd (omega (arith, is.busy e, less))
    idle false e less = e
line_is w (Waits ms) part rest all is alone =
    is.entries
    ∙ waited_is ms w ms (w.tables.clock + ms) is.strides is.tail
    (subst (AreAlone w) is.entries all) is.ticks alone.0 is.all
    is.tail_is.0 alone.1 refl (omega arith)

-- The end.

begins_next : (w : World) (line : Asked) (part : List Entry) → Begins part (asked_entries w line) →
    BeginsNext w (Some line) part
begins_next w line part b = (b.count, b.is)

part_begins : (w : World) (next : Option Asked) (part : List Entry) → AreAlone w part → (is : IsPart w next part) →
    IsPartAlone w next part is → BeginsNext w next part
part_begins w None part all is alone = none_left part all.own is.0 is.1
part_begins w (Some Nothing) part all is alone = (0, none_left part all.own is.0 is.1)
part_begins w (Some (Asks c)) part all is alone = (0, none_left part all.own is.0 is.1)
part_begins w (Some (Settles budget)) part all is alone =
    begins_next w (Settles budget) part
    (begins_more part (settle_entries budget w) (own_call (call.Settle budget) ∷ [])
    (named_part budget w part all is.0 is.1))
part_begins w (Some (Waits ms)) part all is alone =
    begins_next w (Waits ms) part
    (subst (λ (l : List Entry). Begins l (wait_entries ms w (w.tables.clock + ms))) (sym is.entries)
    (waited_part ms w is.strides is.tail (subst (AreAlone w) is.entries all) is.ticks alone is.tail_is))

-- the lines' entries from a world on, an end, and Halt
pub record IsSerialFrom (Ends : World → List Entry → Type 0) (w : World) (lines : List Asked) (h : List Entry) :
    Type 0 where
  pub part : List Entry
  pub entries_are : h ≡ (entries_from w lines ++ part) ++ halt
  pub ends : Ends (replay_from w (entries_from w lines)) part

abbrev pub Begun : Option Asked → World → List Entry → Type 0
Begun next w part = BeginsNext w next part

serial_more : (Ends : World → List Entry → Type 0) (w : World) (line : Asked) (lines : List Asked)
    (es rest h : List Entry) → h ≡ es ++ rest → es ≡ asked_entries w line →
    IsSerialFrom Ends (replay_from w es) lines rest → IsSerialFrom Ends w (line ∷ lines) h
serial_more Ends w line lines es rest h is first later = record {
  part = later.part;
  entries_are =
      is
      ∙ ap (λ (l : List Entry). es ++ l) later.entries_are
      ∙ sym (append_assoc es (entries_from (replay_from w es) lines ++ later.part) halt)
      ∙ ap (λ (l : List Entry). l ++ halt) (sym (append_assoc es (entries_from (replay_from w es) lines) later.part))
      ∙ ap (λ (l : List Entry). ((l ++ entries_from (replay_from w l) lines) ++ later.part) ++ halt) first;
  ends = subst (λ (v : World). Ends v later.part)
      (sym (replay-append w es (entries_from (replay_from w es) lines))
      ∙ ap (λ (l : List Entry). replay_from w (l ++ entries_from (replay_from w l) lines)) first) later.ends;
}

pub lines_are : (lines : List Asked) (next : Option Asked) (w : World) (h : List Entry) → AreAlone w h →
    (follows : FollowsFrom w lines next h) → AreLinesAlone w lines next h follows →
    IsSerialFrom (Begun next) w lines h
lines_are [] next w h all follows alone =
    let first = alone_first w follows.part halt (subst (AreAlone w) follows.entries all) in
    record {
      part = follows.part;
      entries_are = follows.entries;
      ends = part_begins w next follows.part first follows.part_is alone;
    }
lines_are (line ∷ lines) next w h all follows alone =
    let part = follows.0 in
    let rest = follows.1 in
    let each : AreAlone w (part ++ rest) = subst (AreAlone w) follows.2 all in
    let first = line_is w line part rest (alone_first w part rest each) follows.3 alone.0 in
    serial_more (Begun next) w line lines part rest h follows.2 first
    (lines_are lines next (replay_from w part) rest (alone_rest w part rest each) follows.4 alone.1)

-- A next line that isn't done.

pub record StopsNext (next : Option Asked) (w : World) (part : List Entry) : Type 0 where
  pub line : Asked
  pub next_is : next ≡ Some line
  pub stops : Stops part (asked_entries w line)

stops_here : (start : List Entry) (w : World) (next : Option Asked) (part : List Entry) → AreAlone w part →
    (is : IsPart w next part) → IsPartAlone w next part is → IsUndone start w next part is →
    (SeesBusy start → is_busy (replay_from w part) ≡ true) → StopsNext next w part
stops_here start w None part all is alone undone now = absurd undone
stops_here start w (Some Nothing) part all is alone undone now = absurd undone
stops_here start w (Some (Asks c)) part all is alone undone now = record {
  line = Asks c;
  next_is = refl;
  stops = record { count = 0; less = omega arith; is = none_left part all.own is.0 is.1 };
}
stops_here start w (Some (Settles budget)) part all is alone undone now = record {
  line = Settles budget;
  next_is = refl;
  stops = stops_before part (settle_entries budget w) (own_call (call.Settle budget) ∷ []) (omega arith)
      (named_part budget w part all is.0 is.1);
}
stops_here start w (Some (Waits ms)) part all is alone undone now = record {
  line = Waits ms;
  next_is = refl;
  stops = subst (λ (l : List Entry). Stops l (wait_entries ms w (w.tables.clock + ms))) (sym is.entries)
      (waited_stops ms w is.strides is.tail (subst (AreAlone w) is.entries all) is.ticks alone is.tail_is (on undone));
}
  where
    on : (0 < left_after ms is.strides) ⊎ ((own_duties is.tail < full_stretch) × SeesBusy start) →
        (0 < left_after ms is.strides)
        ⊎ ((own_duties is.tail < full_stretch)
        × (is_busy (replay_from w (entries_of_strides is.strides ++ is.tail)) ≡ true))
    on (inl some) = inl some
    on (inr busy) = inr (busy.0, ap (λ (l : List Entry). is_busy (replay_from w l)) (sym is.entries) ∙ now busy.1)

pub lines_stop : (start : List Entry) (lines : List Asked) (next : Option Asked) (w : World) (h : List Entry) →
    AreAlone w h → (follows : FollowsFrom w lines next h) → AreLinesAlone w lines next h follows →
    IsUndoneFrom start w lines next h follows → (SeesBusy start → is_busy (replay start) ≡ true) →
    ((es : List Entry) → h ≡ es ++ halt → replay start ≡ replay_from w es) → IsSerialFrom (StopsNext next) w lines h
lines_stop start [] next w h all follows alone undone now at =
    let first = alone_first w follows.part halt (subst (AreAlone w) follows.entries all) in
    record {
      part = follows.part;
      entries_are = follows.entries;
      ends = stops_here start w next follows.part first follows.part_is alone undone
          (λ busy. ap is_busy (sym (at follows.part follows.entries)) ∙ now busy);
    }
lines_stop start (line ∷ lines) next w h all follows alone undone now at =
    let part = follows.0 in
    let rest = follows.1 in
    let each : AreAlone w (part ++ rest) = subst (AreAlone w) follows.2 all in
    let first = line_is w line part rest (alone_first w part rest each) follows.3 alone.0 in
    serial_more (StopsNext next) w line lines part rest h follows.2 first
    (lines_stop start lines next (replay_from w part) rest (alone_rest w part rest each) follows.4 alone.1 undone now
    (λ es is. at (part ++ es) (follows.2 ∙ ap (λ (l : List Entry). part ++ l) is ∙ sym (append_assoc part es halt))
    ∙ replay-append w part es))

-- What a single caller makes of lines.

lines_alone : (lines : List Asked) (w : World) → AreAlone w (entries_from w lines)
lines_alone [] w = record { own = refl; named = tt }
lines_alone (line ∷ lines) w =
    let es = asked_entries w line in
    alone_join w es (entries_from (replay_from w es) lines) (line_alone w line) (lines_alone lines (replay_from w es))

-- The laws.

pub serial_follows : (lines : List Asked) → FollowsAlone (serial lines) lines None
serial_follows lines =
    let all = alone_join empty_world (entries lines) halt (lines_alone lines empty_world)
    (one_call (replay_from empty_world (entries lines)) call.Halt) in
    let made = subst (FollowsLines empty_world lines None) (sym (lines_run empty_world lines halt_alone))
    (run_follows lines None halt_alone empty_world halt_begins (halt_ends (world_after empty_world lines) None)) in
    record {
      follows = record { callers = of_callers 0 (serial lines) all.own; lines_are = made.are };
      duties = all.named;
      waits = made.alone;
    }

alone_are : (lines : List Asked) (next : Option Asked) (h : List Entry) → FollowsAlone h lines next →
    IsSerialFrom (Begun next) empty_world lines h
alone_are lines next h alone =
    lines_are lines next empty_world h (record { own = own_all h alone.follows.callers; named = alone.duties })
    alone.follows.lines_are alone.waits

-- no next line, no part of it
pub whole_serial : (lines : List Asked) (h : List Entry) → IsSerialFrom (Begun None) empty_world lines h → h ≡ serial lines
whole_serial lines h s =
    s.entries_are
    ∙ ap (λ (l : List Entry). (entries lines ++ l) ++ halt) s.ends
    ∙ ap (λ (l : List Entry). l ++ halt) (append-nil (entries lines))

pub part_serial : (lines : List Asked) (next : Option Asked) (start : List Entry) →
    IsSerialFrom (Begun next) empty_world lines (start ++ halt) → AreSerial lines next start
part_serial lines next start s = record {
  part = s.part;
  entries_are = append_cancel_right start (entries lines ++ s.part) halt s.entries_are;
  begins = s.ends;
}

pub stops_serial : (lines : List Asked) (next : Option Asked) (start : List Entry) → AreOwn start →
    AreAlone empty_world (start ++ halt) → (follows : FollowsFrom empty_world lines next (start ++ halt)) →
    AreLinesAlone empty_world lines next (start ++ halt) follows →
    IsUndoneFrom start empty_world lines next (start ++ halt) follows → StopsSerial lines next start
stops_serial lines next start own all follows alone undone =
    let s = lines_stop start lines next empty_world (start ++ halt) all follows alone undone
    (λ busy. ap is_busy (sym (seen_alone start busy.world own busy.sees)) ∙ busy.busy)
    (λ es is. ap replay (append_cancel_right start es halt is)) in
    record {
      line = s.ends.line;
      next_is = s.ends.next_is;
      count = s.ends.stops.count;
      more = s.ends.stops.less;
      entries_are =
          append_cancel_right start (entries lines ++ s.part) halt s.entries_are
          ∙ ap (λ (l : List Entry). entries lines ++ l) s.ends.stops.is;
    }

pub serial-law : SerialLaw
serial-law h lines = (
  λ alone. whole_serial lines h (alone_are lines None h alone),
  λ is. subst (λ (es : List Entry). FollowsAlone es lines None) (sym is) (serial_follows lines),
)

pub serial-part-law : SerialPartLaw
serial-part-law start lines next alone = part_serial lines next start (alone_are lines next (start ++ halt) alone)

pub serial-undone-law : SerialUndoneLaw
serial-undone-law start lines next alone undone =
    let own = own_all (start ++ halt) alone.follows.callers in
    stops_serial lines next start (own_append start halt own).0
    (record { own = own; named = alone.duties }) alone.follows.lines_are alone.waits undone

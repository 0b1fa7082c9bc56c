-- From the links and ways in the work words to a loop or a report.
use mathlib.Core.Path.{◌≡◌, sym, ◌∙◌}
use mathlib.Core.Logic.{◌↔◌, ⊎_elim}
use mathlib.Core.List.{List}
use Prim.Native.Nat.{ℕ, ◌+◌, ◌*◌, ◌≤◌, ◌<◌}
use native.Mathlib.Omega.{arith}
use lib.ListN.{length, get_or}
use Rattle.paths.specs.Graph.{Graph, Way, Acyclic, Loop}
use Rattle.paths.specs.Items.{owners, ItemWay}
use Rattle.paths.proofs.Items.{owners_same}
use Rattle.paths.proofs.Theorems.{different_below}
use Rattle.bits.specs.Bits.{bit}
use Rattle.bits.specs.Work.{ways_at, items_at, none_at, voices_at, starts_at, owners_at, used_words, Outside}
use Rattle.items.specs.Listed.{voices_in, Listed, WaysBelow, PairsIn}
use Rattle.items.proofs.Graphs.{items_are, owner_is, start_is, ways_below, pairs_are}
use Rattle.reach.specs.Reach.{FirstLoop}
use Rattle.bits.proofs.Frames.{matrix_before}
use Rattle.searching.specs.Items.{members}
use Rattle.chains.specs.Threads.{ThreadsOf}
use Rattle.searching.specs.State.{tables, Sized}
use Rattle.chains.specs.Joined.{NoneBehind, JoinedIn, LoopedIn}
use Rattle.paths.proofs.Passing.{passing_rising}
use Rattle.searching.proofs.Relations.{exhausted_within}
use Rattle.chains.proofs.Cycle.{loop_least}
use Rattle.writing.specs.Writing.{Solved, apart_test, apart_in, ReportRoom, ReportWritten, Looping, LoopWritten}
use Rattle.writing.proofs.Solved.{solved_furthest, solved_same, solved_cover, solved_smallest, solved_holds, solved_alone}
use Rattle.report.specs.Report.{Reported, ShowsLoop, ShowsReport}
use Rattle.report.specs.Solving.{Ready}

-- what is proved of the chains, as a report
module _ {g : Graph} {n m : ℕ} {w : List ℕ} (s : Solved g n m w) (ts : List (List ℕ)) (threads : ThreadsOf g (tables w).next (members (tables w) m) ts) where
  pub reported : Reported g (apart_in w n) ts
  reported =
      record {
        acyclic = s.acyclic;
        cover = solved_cover s ts threads;
        smallest = solved_smallest s ts threads;
        furthest = solved_furthest s;
        rising = passing_rising (apart_test w) n;
        paired =
            record {
              same = solved_same s ts threads;
              holds = solved_holds s ts threads;
              alone = solved_alone s ts threads;
            };
      }

module _ {g : Graph} {n v : ℕ} {w : List ℕ} (ready : Ready g n w) (first : FirstLoop w n v) where
  -- what comes before `v` has no way to itself
  none_before : (u : ℕ) → u < v → Way g u u → ⊥
  none_before u h way =
      let none : bit w (ways_at + 8 * u) u ≡ 0 = first.first u h in
      let few : n < 256 = ready.few in
      let most : v ≤ n = first.at_most in
      let one : bit w (ways_at + 8 * u) u ≡ 1 = ready.ways.complete u u (omega arith) (omega arith) way in
      omega arith

  module _ {w' : List ℕ} (below : v < n) (looped : LoopedIn w w' n v) where
    pub looping : Looping g n v w'
    looping =
        let few : n < 256 = ready.few in
        let (t, selves, shrunk) =
        looped.shrunk g ready.ends ready.count ready.links (ready.ways.sound v v (omega arith) (omega arith) (first.here below)) in
        record {
          count = ready.count;
          few = ready.few;
          long = rw looped.outside.same_length ready.long;
          selves = t;
          selves_are = selves;
          shrunk = shrunk;
        }

    -- a loop is found
    pub loop_sought : {o o' : List ℕ} {r : ℕ} → LoopWritten w' o o' v r → ShowsLoop g r o o'
    loop_sought d =
        let (l, starts) = d.of g n looping in
        (d.loop, record { loop = l; smallest_first = rw starts (loop_least none_before l) }, sym d.size, d.words)

-- every loop fits the words of a report
pub loop_room : {g : Graph} {k : ℕ} → ReportRoom g k → (c : List ℕ) → Loop g c → length c + 1 ≤ k
loop_room {g} room c loop =
    let few = different_below g.n c loop.once loop.episodes in
    ⊎_elim (λ (one, enough). omega (arith, few, enough)) (λ (two, enough). omega (arith, few, enough)) room

-- the voices of the graph stand in the words
module _ {g : Graph} {n : ℕ} {w : List ℕ} (ready : Ready g n w) where
  pub items_few : length (owners (voices_in w) n) < 256
  items_few =
      let same = owners_same (voices_in w) g.voices n ready.voices in
      let count = ready.count in
      rw (same, ← count) ready.few_items

  -- listing the items leaves them there
  pub ready_listed : {w₁ : List ℕ} → Outside starts_at used_words w w₁ → Ready g n w₁
  ready_listed lists =
      record {
        count = ready.count;
        few = ready.few;
        few_items = ready.few_items;
        long = rw lists.same_length ready.long;
        ends = ready.ends;
        links = matrix_before (omega arith) lists ready.links;
        ways = matrix_before (omega arith) lists ready.ways;
        voices = λ v h. lists.before (voices_at + v) (omega (arith, ready.few)) ∙ ready.voices v h;
        empty = λ i lo hi. lists.before i (omega arith) ∙ ready.empty i lo hi;
      }

-- The items are listed in the words `w`, paired in `w₁`, and joined to chains in `w₂`.
module _ {g : Graph} {n m : ℕ} {w : List ℕ} (ready : Ready g n w) (listed : Listed w n m) where
  pub none_below : WaysBelow w n
  none_below = ways_below g ready.count ready.voices listed ready.ways ready.ends

  module _ {w₁ : List ℕ} (paired : PairsIn w w₁ m) where
    pub none_behind : NoneBehind w₁
    none_behind i lo hi = paired.outside.behind i lo ∙ ready.empty i lo (omega arith)

    pub items_sized : Sized w₁ items_at m
    items_sized =
        record { long = rw paired.outside.same_length ready.long; matrix = omega arith; items = listed.few_items }

    way : (x y : ℕ) → x < m → y < m → (bit w₁ (items_at + 8 * x) y ≡ 1) ↔ ItemWay g x y
    way = pairs_are g ready.count ready.voices listed ready.ways ready.ends w₁ paired

    module _ {w₂ : List ℕ} (acyclic : Acyclic g) (joined : JoinedIn w₁ w₂ items_at m) where
      -- words behind the matrix and the tables of the search are as they were
      kept : (i : ℕ) → none_at ≤ i → get_or w₂ i 0 ≡ get_or w i 0
      kept i h = joined.outside.behind i h ∙ paired.outside.behind i (omega arith)

      pub solved : Solved g n m w₂
      solved =
          record {
            count = ready.count;
            few = ready.few;
            items = sym (items_are g ready.count ready.voices listed);
            few_items = listed.few_items;
            long = rw (joined.outside.same_length, paired.outside.same_length) ready.long;
            ends = ready.ends;
            acyclic = acyclic;
            links = matrix_before (omega arith) joined.outside (matrix_before (omega arith) paired.outside ready.links);
            ways = matrix_before (omega arith) joined.outside (matrix_before (omega arith) paired.outside ready.ways);
            voices = λ v h. kept (voices_at + v) (omega arith) ∙ ready.voices v h;
            starts = λ v h. kept (starts_at + v) (omega arith) ∙ start_is g ready.count ready.voices listed v h;
            owners = λ x h. kept (owners_at + x) (omega arith) ∙ owner_is g ready.count ready.voices listed x h;
            matching = joined.matching;
            pairs = λ x y hx hy e. (way x y hx hy).0 (joined.pairs x y hx hy e);
            exhausted = exhausted_within (λ x y hx hy p. (way x y hx hy).0 p) (λ x y hx hy p. (way x y hx hy).1 p) joined.exhausted;
          }

      pub report_answered : {o o' : List ℕ} {r : ℕ} → ReportWritten w₂ o o' n m r → ShowsReport g r o o'
      report_answered d = (apart_in w₂ n, d.threads, reported solved d.threads (d.of g solved), sym d.size, d.words)

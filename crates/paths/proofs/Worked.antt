-- The worked graphs of the scope, and its false readings, each shown not to meet the definitions.
use mathlib.Core.Path.{◌≡◌, refl, ap}
use mathlib.Core.Logic.{◌⊎◌, inl, inr, ⊎_elim}
use mathlib.Core.Bool.{Bool, true, false}
use mathlib.Core.List.Memᴰ.{head as here}
use mathlib.Core.List.Memᴰ.{tail as there}
use mathlib.Core.List.{List, [], ◌∷◌}
use Prim.Native.Nat.{ℕ, ◌≤◌, ◌<◌}
use native.Mathlib.Omega.{arith}
use lib.Dec.{T, eqb, ltb, ltb→lt}
use lib.ListN.{length}
use Rattle.order.specs.Order.{All, Chain, more}
use Rattle.paths.specs.Graph.{Graph, Link, one, step, Thread, Apart, Cover, Smallest, Heaviest, Furthest, Loop, member, passing_threads, weight}
use Rattle.paths.specs.Links.{link_count, distinct}
use Rattle.paths.specs.Links as links
use Rattle.paths.specs.Trimmed.{Stays, Trimmed}
use Rattle.paths.proofs.Furthest.{furthest_unique}
use Rattle.paths.proofs.Checker.{
  linked,
  linked_all,
  trim_test,
  trim_right,
  rises,
  rises_right,
  each,
  each_right,
  Settled,
  settled_test,
  settled_right,
  loop_test,
  loop_right,
  cover_test,
  cover_right,
  ends_test,
  ends_right,
  apart_test,
  apart_right,
}

-- A graph, a smallest cover, its furthest apart set, and for each member of it threads, fewer than the members, that hold every
-- episode but the member and those with a way to it.
pub record Row : Type 0 where
  pub graph : Graph
  pub threads : List (List ℕ)
  pub apart : List ℕ
  pub behind : List (List (List ℕ))

-- one voice for each episode
abbrev pub graph : ℕ → List (ℕ × ℕ) → Graph
graph n links = record { n = n; links = links; voices = λ _. 1 }

-- the voices that a mark gives `v`, 1 without one; a mark is an episode and its voices
unfoldable pub marked_voices : List (ℕ × ℕ) → ℕ → ℕ
marked_voices [] v = 1
marked_voices (m ∷ ms) v = elim (eqb v m.0) [ true ↦ m.1 | false ↦ marked_voices ms v ]

-- the voices that the marks give
abbrev pub marked : ℕ → List (ℕ × ℕ) → List (ℕ × ℕ) → Graph
marked n links marks = record { n = n; links = links; voices = marked_voices marks }

abbrev pub whole : Graph
whole = graph 5 ((0, 1) ∷ (2, 3) ∷ [])

abbrev pub crossing : Graph
crossing = graph 5 ((0, 2) ∷ (1, 2) ∷ (2, 3) ∷ (2, 4) ∷ [])

abbrev pub line : Graph
line = graph 3 ((0, 1) ∷ (1, 2) ∷ [])

abbrev pub whole_row : Row
whole_row =
    record {
      graph = whole;
      threads = (0 ∷ 1 ∷ []) ∷ (2 ∷ 3 ∷ []) ∷ (4 ∷ []) ∷ [];
      apart = 1 ∷ 3 ∷ 4 ∷ [];
      behind = ((2 ∷ 3 ∷ []) ∷ (4 ∷ []) ∷ []) ∷ ((0 ∷ 1 ∷ []) ∷ (4 ∷ []) ∷ []) ∷ ((0 ∷ 1 ∷ []) ∷ (2 ∷ 3 ∷ []) ∷ []) ∷ [];
    }

abbrev pub rows : List Row
rows =
    record { graph = graph 0 []; threads = []; apart = []; behind = [] }
    ∷ record { graph = graph 1 []; threads = (0 ∷ []) ∷ []; apart = 0 ∷ []; behind = [] ∷ [] }
    ∷ whole_row
    ∷ record {
      graph = crossing;
      threads = (0 ∷ 2 ∷ 3 ∷ []) ∷ (1 ∷ 2 ∷ 4 ∷ []) ∷ [];
      apart = 3 ∷ 4 ∷ [];
      behind = ((4 ∷ []) ∷ []) ∷ ((3 ∷ []) ∷ []) ∷ [];
    }
    ∷ record {
      graph = graph 3 ((0, 1) ∷ (1, 2) ∷ (0, 2) ∷ []);
      threads = (0 ∷ 1 ∷ 2 ∷ []) ∷ [];
      apart = 2 ∷ [];
      behind = [] ∷ [];
    }
    ∷ record {
      graph = graph 4 ((0, 1) ∷ (0, 2) ∷ (1, 3) ∷ (2, 3) ∷ []);
      threads = (0 ∷ 1 ∷ 3 ∷ []) ∷ (0 ∷ 2 ∷ 3 ∷ []) ∷ [];
      apart = 1 ∷ 2 ∷ [];
      behind = ((2 ∷ 3 ∷ []) ∷ []) ∷ ((1 ∷ 3 ∷ []) ∷ []) ∷ [];
    }
    ∷ record { graph = graph 2 ((0, 1) ∷ (0, 1) ∷ []); threads = (0 ∷ 1 ∷ []) ∷ []; apart = 1 ∷ []; behind = [] ∷ [] }
    ∷ []

row_test : Row → Bool
row_test r = settled_test r.graph r.threads r.apart r.behind

rows_pass : T (each row_test rows)
unfolding each row_test settled_test
rows_pass = tt

-- the loop-free logs that are worked through: cover, apart set and width are as the scope says
pub worked : All (λ r. Settled r.graph r.threads r.apart) rows
unfolding row_test
worked r m = settled_right r.graph r.threads r.apart r.behind (each_right row_test rows rows_pass r m)

-- 0-2, 1-2, 2-3, 2-4, 2-5 with duets 0 and 1
abbrev pub duets : Graph
duets = marked 6 ((0, 2) ∷ (1, 2) ∷ (2, 3) ∷ (2, 4) ∷ (2, 5) ∷ []) ((0, 2) ∷ (1, 2) ∷ [])

abbrev pub duets_row : Row
duets_row =
    record {
      graph = duets;
      threads = (0 ∷ 2 ∷ 3 ∷ []) ∷ (0 ∷ 2 ∷ 4 ∷ []) ∷ (1 ∷ 2 ∷ 5 ∷ []) ∷ (1 ∷ []) ∷ [];
      apart = 0 ∷ 1 ∷ [];
      behind =
          ((1 ∷ 2 ∷ 3 ∷ []) ∷ (1 ∷ 2 ∷ 4 ∷ []) ∷ (5 ∷ []) ∷ []) ∷ ((0 ∷ 2 ∷ 3 ∷ []) ∷ (0 ∷ 2 ∷ 4 ∷ []) ∷ (5 ∷ []) ∷ []) ∷ [];
    }

-- one episode, a duet
abbrev pub duet : Graph
duet = marked 1 [] ((0, 2) ∷ [])

-- one episode, a door
abbrev pub door : Graph
door = marked 1 [] ((0, 0) ∷ [])

-- rows with duets and doors
abbrev pub voiced_rows : List Row
voiced_rows =
    record { graph = door; threads = []; apart = []; behind = [] }
    ∷ record { graph = duet; threads = (0 ∷ []) ∷ (0 ∷ []) ∷ []; apart = 0 ∷ []; behind = [] ∷ [] }
    -- 0-1 with voices 2 and 1, 1 and 2, 0 and 2
    ∷ record {
      graph = marked 2 ((0, 1) ∷ []) ((0, 2) ∷ []);
      threads = (0 ∷ 1 ∷ []) ∷ (0 ∷ []) ∷ [];
      apart = 0 ∷ [];
      behind = ((1 ∷ []) ∷ []) ∷ [];
    }
    ∷ record {
      graph = marked 2 ((0, 1) ∷ []) ((1, 2) ∷ []);
      threads = (0 ∷ 1 ∷ []) ∷ (1 ∷ []) ∷ [];
      apart = 1 ∷ [];
      behind = [] ∷ [];
    }
    ∷ record {
      graph = marked 2 ((0, 1) ∷ []) ((1, 2) ∷ (0, 0) ∷ []);
      threads = (0 ∷ 1 ∷ []) ∷ (1 ∷ []) ∷ [];
      apart = 1 ∷ [];
      behind = [] ∷ [];
    }
    -- two heaviest sets, 0 and 1, of which 1 is further along
    ∷ record {
      graph = marked 2 ((0, 1) ∷ []) ((0, 2) ∷ (1, 2) ∷ []);
      threads = (0 ∷ 1 ∷ []) ∷ (0 ∷ 1 ∷ []) ∷ [];
      apart = 1 ∷ [];
      behind = [] ∷ [];
    }
    -- and 0 and 1 2, of which 1 2 is
    ∷ record {
      graph = marked 3 ((0, 1) ∷ (0, 2) ∷ []) ((0, 2) ∷ []);
      threads = (0 ∷ 1 ∷ []) ∷ (0 ∷ 2 ∷ []) ∷ [];
      apart = 1 ∷ 2 ∷ [];
      behind = ((2 ∷ []) ∷ []) ∷ ((1 ∷ []) ∷ []) ∷ [];
    }
    -- all doors
    ∷ record {
      graph = marked 3 ((0, 1) ∷ (1, 2) ∷ []) ((0, 0) ∷ (1, 0) ∷ (2, 0) ∷ []);
      threads = [];
      apart = [];
      behind = [];
    }
    -- a thread passes a door between two others, which no link joins
    ∷ record {
      graph = marked 3 ((0, 1) ∷ (1, 2) ∷ []) ((1, 0) ∷ []);
      threads = (0 ∷ 1 ∷ 2 ∷ []) ∷ [];
      apart = 2 ∷ [];
      behind = [] ∷ [];
    }
    ∷ duets_row
    ∷ []

voiced_rows_pass : T (each row_test voiced_rows)
unfolding each row_test settled_test marked_voices
voiced_rows_pass = tt

-- the loop-free graphs with duets and doors that are worked through
pub worked_voices : All (λ r. Settled r.graph r.threads r.apart) voiced_rows
unfolding row_test
worked_voices r m = settled_right r.graph r.threads r.apart r.behind (each_right row_test voiced_rows voiced_rows_pass r m)

-- a graph and a loop of it
pub record LoopRow : Type 0 where
  pub graph : Graph
  pub loop : List ℕ

abbrev pub loop_rows : List LoopRow
loop_rows =
    record { graph = graph 2 ((0, 1) ∷ (1, 0) ∷ []); loop = 0 ∷ 1 ∷ [] }
    ∷ record { graph = graph 1 ((0, 0) ∷ []); loop = 0 ∷ [] }
    ∷ []

loop_row_test : LoopRow → Bool
loop_row_test r = loop_test r.graph r.loop

loop_rows_pass : T (each loop_row_test loop_rows)
unfolding each loop_row_test loop_test
loop_rows_pass = tt

-- the logs with a loop that are worked through
pub worked_loops : All (λ r. Loop r.graph r.loop) loop_rows
unfolding loop_row_test
worked_loops r m = loop_right r.graph r.loop (each_right loop_row_test loop_rows loop_rows_pass r m)

-- a cover with more threads than another is not smallest
larger_cover : {g : Graph} (ts us : List (List ℕ)) → Cover g us → T (ltb (length us) (length ts)) → Smallest g ts → ⊥
larger_cover ts us cover larger smallest =
    let h : length us < length ts = ltb→lt (length us) (length ts) larger in
    let k : length ts ≤ length us = smallest us cover in
    omega arith

abbrev unshared : List (List ℕ)
unshared = (0 ∷ 2 ∷ 3 ∷ []) ∷ (1 ∷ []) ∷ (4 ∷ []) ∷ []

-- threads that share nothing: three where two will do
pub threads_may_share : Cover crossing unshared × (Smallest crossing unshared → ⊥)
unfolding cover_test
threads_may_share =
    let two : List (List ℕ) = (0 ∷ 2 ∷ 3 ∷ []) ∷ (1 ∷ 2 ∷ 4 ∷ []) ∷ [] in
    (cover_right crossing unshared tt, larger_cover unshared two (cover_right crossing two tt) tt)

-- one thread for a duet: it wants two
pub duet_wants_two : Cover duet ((0 ∷ []) ∷ []) → ⊥
unfolding passing_threads member marked_voices
duet_wants_two cover = let h : 2 ≤ 1 = cover.enough 0 (omega arith) in omega arith

-- a door in an apart set: a member has voices
pub door_is_no_member : Apart door (0 ∷ []) → ⊥
unfolding marked_voices
door_is_no_member apart = let h : 1 ≤ 0 = apart.voiced 0 (here refl) in omega arith

-- the apart set with most members instead of the heaviest: 3 4 5 has more members than 0 1, and fewer voices
pub heaviest_is_not_most : Apart duets (3 ∷ 4 ∷ 5 ∷ []) × (Heaviest duets (3 ∷ 4 ∷ 5 ∷ []) → ⊥)
unfolding apart_test ends_test weight marked_voices
heaviest_is_not_most = (
  apart_right duets (ends_right duets tt) (3 ∷ 4 ∷ 5 ∷ []) tt,
  λ heaviest.
      let h : 4 ≤ 3 = heaviest (0 ∷ 1 ∷ []) (apart_right duets (ends_right duets tt) (0 ∷ 1 ∷ []) tt) in
      omega arith,
)

-- threads that skip along ways: 0 2 is no thread along 0-1, 1-2
pub threads_do_not_skip : Thread line (0 ∷ 2 ∷ []) → ⊥
unfolding linked
threads_do_not_skip thread = skips thread.path
  where
    skips : Chain (Link line) (0 ∷ 2 ∷ []) → ⊥
    skips (more l c) = linked_all line 0 2 l

-- apart as "no link": 0 has a way to 2 along 0-1, 1-2
pub apart_is_no_way : Apart line (0 ∷ 2 ∷ []) → ⊥
apart_is_no_way apart =
    apart.antichain.apart {a = 0} {b = 2} (here refl) (there (here refl)) (λ e. let none : ⊥ = omega arith in none)
    (step (here refl) (one (there (here refl))))

-- two threads, 0 1 2 and 3 4 5, with a link across: taking each time the thread with most uncovered episodes starts with 0 1 4 5
abbrev across : Graph
across = graph 6 ((0, 1) ∷ (1, 2) ∷ (3, 4) ∷ (4, 5) ∷ (1, 4) ∷ [])

abbrev greedy : List (List ℕ)
greedy = (0 ∷ 1 ∷ 4 ∷ 5 ∷ []) ∷ (0 ∷ 1 ∷ 2 ∷ []) ∷ (3 ∷ 4 ∷ 5 ∷ []) ∷ []

pub greedy_is_a_start : Cover across greedy × (Smallest across greedy → ⊥)
unfolding cover_test
greedy_is_a_start =
    let two : List (List ℕ) = (0 ∷ 1 ∷ 2 ∷ []) ∷ (3 ∷ 4 ∷ 5 ∷ []) ∷ [] in
    (cover_right across greedy tt, larger_cover greedy two (cover_right across two tt) tt)

-- any largest apart set instead of the furthest: 0 2 4 in the whole example
pub furthest_is_one : Furthest whole (0 ∷ 2 ∷ 4 ∷ []) → ⊥
unfolding rises
furthest_is_one f =
    let other : List ℕ = 0 ∷ 2 ∷ 4 ∷ [] in
    let w = worked whole_row (there (there (here refl))) in
    let same : other ≡ whole_row.apart =
    furthest_unique w.acyclic other whole_row.apart f w.furthest (rises_right other tt) w.rising in
    let first : ◌≡◌ {A = ℕ} 0 1 = cc in
    omega arith

-- a graph and its links that stay
pub record TrimRow : Type 0 where
  pub graph : Graph
  pub stay : List (ℕ × ℕ)

-- three links round a fourth
abbrev pub detour : Graph
detour = graph 4 ((0, 1) ∷ (1, 2) ∷ (2, 3) ∷ (0, 3) ∷ [])

abbrev pub trim_rows : List TrimRow
trim_rows =
    record { graph = graph 3 ((0, 1) ∷ (1, 2) ∷ (0, 2) ∷ []); stay = (0, 1) ∷ (1, 2) ∷ [] }
    ∷ record {
      graph = graph 4 ((0, 1) ∷ (0, 2) ∷ (1, 3) ∷ (2, 3) ∷ []);
      stay = (0, 1) ∷ (0, 2) ∷ (1, 3) ∷ (2, 3) ∷ [];
    }
    ∷ record { graph = graph 2 ((0, 1) ∷ (0, 1) ∷ []); stay = (0, 1) ∷ [] }
    ∷ record { graph = detour; stay = (0, 1) ∷ (1, 2) ∷ (2, 3) ∷ [] }
    ∷ []

abbrev row_trimmed : TrimRow → Graph
row_trimmed r = record { n = r.graph.n; links = r.stay; voices = r.graph.voices }

trim_row_test : TrimRow → Bool
trim_row_test r = trim_test r.graph (row_trimmed r)

trim_rows_pass : T (each trim_row_test trim_rows)
unfolding each trim_row_test trim_test
trim_rows_pass = tt

-- the graphs whose trimming is worked through: a link beside two others goes, the diamond stays, a repeat does not take its own link away, and
-- a link beside three others goes
pub worked_trims : All (λ r. Trimmed r.graph (row_trimmed r)) trim_rows
unfolding trim_row_test
worked_trims r m = trim_right r.graph (row_trimmed r) refl (λ v p. refl) (each_right trim_row_test trim_rows trim_rows_pass r m)

-- "no other path" as "no path of two links": there is none beside 0-3 in the last of them, but 0-3 does not stay
pub longer_paths_count : ((c : ℕ) → Link detour 0 c → Link detour c 3 → ⊥) × (Stays detour 0 3 → ⊥)
unfolding linked
longer_paths_count = (
  λ c l k. ⊎_elim (λ e. linked_all detour 1 3 (rw e at k)) (λ e. linked_all detour 3 3 (rw e at k)) (next c l),
  λ s. linked_all (row_trimmed last) 0 3 (((worked_trims last (there (there (there (here refl))))).links 0 3).1 s),
)
  where
    last : TrimRow
    last = record { graph = detour; stay = (0, 1) ∷ (1, 2) ∷ (2, 3) ∷ [] }

    first : ℕ × ℕ → ℕ
    first l = l.0

    second : ℕ × ℕ → ℕ
    second l = l.1

    next : (c : ℕ) → Link detour 0 c → (c ≡ 1) ⊎ (c ≡ 3)
    next c (here e) = inl (ap second e)
    next c (there (here e)) = let none : ◌≡◌ {A = ℕ} 0 1 = ap first e in absurd (omega arith)
    next c (there (there (here e))) = let none : ◌≡◌ {A = ℕ} 0 2 = ap first e in absurd (omega arith)
    next c (there (there (there (here e)))) = inr (ap second e)
    next c (there (there (there (there x16)))) = elim x16 [ ]

-- link counts: of no links; of a link given twice, at once and after another one; of two links that differ in their direction alone; and of a link
-- from an episode to itself, given twice
pub worked_counts : (link_count (graph 2 []) ≡ 0)
    × (link_count (graph 2 ((0, 1) ∷ (0, 1) ∷ [])) ≡ 1)
    × (link_count (graph 3 ((0, 1) ∷ (1, 2) ∷ (0, 1) ∷ [])) ≡ 2)
    × (link_count (graph 2 ((0, 1) ∷ (1, 0) ∷ [])) ≡ 2)
    × (link_count (graph 1 ((0, 0) ∷ (0, 0) ∷ [])) ≡ 1)
unfolding distinct links.linked
worked_counts = (refl, refl, refl, refl, refl)

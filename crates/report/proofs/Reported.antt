-- What a report call that meets the contract leaves, read back from the words that it has written.
use mathlib.Core.Path.{◌≡◌, refl, sym, ap, ap₂, subst, ◌∙◌}
use mathlib.Core.Logic.{◌≢◌, ⊎_elim}
use mathlib.Core.List.{List, ◌++◌}
use Prim.Native.Nat.{ℕ, zero, suc, ◌+◌, ◌≤◌, ◌<◌}
use native.Mathlib.Omega.{arith}
use lib.ListN.{length, take, drop, get_or}
use Rattle.order.specs.Order.{All}
use Rattle.paths.specs.Graph.{Graph, EndsBelow, Acyclic, Apart, weight, Heaviest, Width, Loop}
use Rattle.paths.proofs.Fits.{weight_few}
use Rattle.paths.proofs.Theorems.{
  equal_pair,
  duality,
  width_unique,
  different_below,
  thread_different,
  acyclic_no_loop,
  loop_to_way,
}
use Rattle.logs.specs.Words.{kind, number, word, Small}
use Rattle.logs.specs.Answer.{Answer, given, refused}
use Rattle.logs.specs.Log.{questions, graph_of, heard_count, voices_count}
use Rattle.logs.specs.declared.Ceilings.{Ceilings}
use Rattle.logs.proofs.Words.{kind_word, number_word}
use Rattle.logs.proofs.Laws.{graph_episodes, heard_count_words, links_below, voices_few}
use Rattle.writing.specs.Layout.{report_words, loop_words, report_need, SmallThread, apart_of, threads_of, BeginsWith}
use Rattle.report.specs.Report.{outcome_answer, asked, report_needs, cleared, Reported, LoopShown, Passes, ShowsLoop, ShowsReport, Left}
use Rattle.report.specs.Accepted.{Accepted, LentEnough}
use Rattle.report.specs.declared.Outcome.{Outcome}
use Rattle.report.specs.declared.Outcome.TheVariants.{Report, Loop as Looped, Refused}
use Rattle.writing.proofs.Buffers.{begins_words}
use Rattle.writing.proofs.Layouts.{length_loop, report_fits_need, report_head, apart_of_report, threads_of_report}
use Rattle.report.proofs.Voices.{room}
use Rattle.report.proofs.Asked.{asked_passes, asked_given, asked_same, asked_other}
use Rattle.report.proofs.Outcomes as outcomes
use Rattle.report.proofs.Outcomes.{Leaves, denied, looped, gave}

-- A report on a graph with few enough episodes for a word is read back from its words.
module _ {g : Graph} {apart : List ℕ} {threads : List (List ℕ)} (few : Small g.n) (few_threads : Small (length threads)) (reported : Reported g apart threads) where
  -- all its numbers fit a word

  pub apart_small : All Small apart
  apart_small v m = let h : v < g.n = reported.furthest.apart.episodes v m in omega arith

  pub threads_small : All SmallThread threads
  threads_small t m =
      let thread = reported.cover.threads t m in
      let short : length t ≤ g.n = different_below g.n t (thread_different reported.acyclic thread) thread.episodes in
      (omega arith, λ v i. let h : v < g.n = thread.episodes v i in omega arith)

  apart_read : apart_of (report_words apart threads) ≡ apart
  apart_read = apart_of_report apart threads few_threads apart_small threads_small

  threads_read : threads_of (report_words apart threads) ≡ threads
  threads_read = threads_of_report apart threads few_threads apart_small threads_small

-- Every report, and every loop, fits the words that the caller lends
pub reported_fits : (m : Ceilings) (l : List ℕ) (n t : ℕ) → questions m l ≡ given (n, t) → (apart : List ℕ) (threads : List (List ℕ))
    → Reported (graph_of l) apart threads → length (report_words apart threads) ≤ report_need (graph_of l).n (voices_count l)
reported_fits m l n t e apart threads r =
    report_fits_need r.acyclic apart threads r.cover r.furthest.apart r.paired.same
    (room m l n t (report_need (graph_of l).n (voices_count l)) e (rw (graph_episodes m l n t e) (omega arith)))

pub loop_fits : {g : Graph} (v : ℕ) (c : List ℕ) → Loop g c → length (loop_words c) ≤ report_need g.n v
loop_fits {g} v c o = go v
  where
    few : length (loop_words c) ≤ 1 + g.n
    few = omega (arith, length_loop c, different_below g.n c o.once o.episodes)

    go : (v : ℕ) → length (loop_words c) ≤ report_need g.n v
    go zero = omega (arith, few)
    go (suc v) = omega (arith, few)

-- What a call with the outcome of a report leaves, told by the words that stand in the output: `c` is their count.
pub record ReportLeft (m : Ceilings) (l o w o' w' : List ℕ) (c : ℕ) : Type 0 where
  pub passes : Passes m l (length o) (length w)
  pub reported : Reported (graph_of l) (apart_of (take c o')) (threads_of (take c o'))
  pub count : length (take c o') ≡ c
  pub words : take c o' ≡ report_words (apart_of (take c o')) (threads_of (take c o'))
  pub unchanged : o' ≡ take c o' ++ drop c o
  pub work : w' ≡ cleared w

-- What a call with the outcome of a loop leaves.
pub record LoopLeft (m : Ceilings) (l o w o' w' : List ℕ) (k : ℕ) : Type 0 where
  pub passes : Passes m l (length o) (length w)
  pub loop : List ℕ
  pub shown : LoopShown (graph_of l) loop
  pub count : length loop ≡ k
  pub begins : BeginsWith (loop_words loop) o o'
  pub work : w' ≡ cleared w

-- A log that passes has at most two voices for each episode, so a report on it has few threads.
pub threads_few : (m : Ceilings) (l : List ℕ) → questions m l ≡ given ((graph_of l).n, heard_count l) → {apart : List ℕ} {threads : List (List ℕ)}
    → Reported (graph_of l) apart threads → Small (length threads)
threads_few m l e {apart} {threads} reported =
    let few : length apart ≤ (graph_of l).n = different_below (graph_of l).n apart reported.furthest.apart.antichain.once reported.furthest.apart.episodes in
    let two : weight (graph_of l) apart ≤ length apart + length apart =
    weight_few (graph_of l) apart (λ v h. voices_few m l (graph_of l).n (heard_count l) e v h) reported.furthest.apart.episodes in
    omega (arith, reported.paired.same)

-- The contract, so told.
module _ (m : Ceilings) (l o w o' w' : List ℕ) where
  passes_read : Passes m l (length o) (length w) → questions m l ≡ given ((graph_of l).n, heard_count l)
  passes_read passes = (asked_given m report_needs l (length o) (length w) (graph_of l).n (heard_count l) passes).0

  report_left : (c : ℕ) → Left m l o w o' w' (Report c) → ReportLeft m l o w o' w' c
  unfolding Left
  report_left c (passes, (apart, threads, reported, count, begins), work) =
      let few : Small (graph_of l).n = omega arith in
      let many : Small (length threads) = threads_few m l (passes_read passes) reported in
      let (at, unchanged) = begins_words (report_words apart threads) o o' begins c count in
      let a : apart_of (take c o') ≡ apart = rw at (apart_read few many reported) in
      let t : threads_of (take c o') ≡ threads = rw at (threads_read few many reported) in
      record {
        passes = passes;
        reported = rw (a, t) reported;
        count = rw at count;
        words = rw (a, t) at;
        unchanged = unchanged;
        work = work;
      }

  loop_left : (k : ℕ) → Left m l o w o' w' (Looped k) → LoopLeft m l o w o' w' k
  unfolding Left
  loop_left k (passes, (loop, shown, count, begins), work) =
      record { passes = passes; loop = loop; shown = shown; count = count; begins = begins; work = work }

-- questions 1 to 12 and 18 to 21 of a report call
abbrev Asks : Ceilings → (l o w : List ℕ) → Answer (ℕ × ℕ)
Asks m l o w = asked m report_needs l (length o) (length w)

-- a loop is a way from its first episode to itself
pub loop_cyclic : {g : Graph} {c : List ℕ} → Acyclic g → Loop g c → ⊥
loop_cyclic acyclic o = acyclic o.first (loop_to_way o)

module _ (m : Ceilings) (l o w o' w' : List ℕ) where
  leaves : (r : Outcome) → Left m l o w o' w' r
      → Leaves (Asks m l o w) ((graph_of l).n, heard_count l) (ReportLeft m l o w o' w') (LoopLeft m l o w o' w') ((o' ≡ o) × (w' ≡ w))
      (outcome_answer r)
  unfolding Left
  leaves (Report c) left = gave c refl left.0 (report_left m l o w o' w' c left)
  leaves (Looped k) left = looped k refl left.0 (loop_left m l o w o' w' k left)
  leaves (Refused q p) left = denied q p refl left.0 (left.1, left.2)

  -- a call that gives a count has left a report
  pub given_left : (r : Outcome) (c : ℕ) → Left m l o w o' w' r → outcome_answer r ≡ given c → ReportLeft m l o w o' w' c
  given_left r c left e = (outcomes.given_gave (leaves r left) c e).1

  -- a call with refusal 13 has left a loop
  pub refused_left : (r : Outcome) (k : ℕ) → Left m l o w o' w' r → outcome_answer r ≡ refused 13 k → LoopLeft m l o w o' w' k
  refused_left r k left e =
      (outcomes.refused_loop (asked_other m report_needs l (length o) (length w)) (leaves r left) k e).1

  -- an acyclic graph's call whose questions are answered yes gives a count
  pub acyclic_given : (r : Outcome) → Passes m l (length o) (length w) → Acyclic (graph_of l) → Left m l o w o' w' r
      → (c : ℕ) × (outcome_answer r ≡ given c)
  acyclic_given r passes acyclic left =
      ⊎_elim (λ (c, e, d). (c, e)) (λ (k, e, d). absurd (loop_cyclic acyclic d.shown.loop)) (outcomes.asked_yes (leaves r left) passes)

  -- a call on a graph with a loop, whose questions are answered yes, is refusal 13
  pub loop_refused : (r : Outcome) (c : List ℕ) → Passes m l (length o) (length w) → Loop (graph_of l) c → Left m l o w o' w' r
      → (k : ℕ) × (outcome_answer r ≡ refused 13 k)
  loop_refused r c passes loop left =
      ⊎_elim (λ (d, e, g). absurd (loop_cyclic g.reported.acyclic loop)) (λ (k, e, d). (k, e)) (outcomes.asked_yes (leaves r left) passes)

  -- a call refuses with any number but 13 exactly when the questions do
  pub refused_asked : (r : Outcome) (q p : ℕ) → q ≢ 13 → Left m l o w o' w' r → outcome_answer r ≡ refused q p
      → (Asks m l o w ≡ refused q p) × (o' ≡ o) × (w' ≡ w)
  refused_asked r q p h left e = let (asks, same) = outcomes.refused_asked (leaves r left) q p h e in (asks, same.0, same.1)

  pub asked_refused : (r : Outcome) (q p : ℕ) → Left m l o w o' w' r → Asks m l o w ≡ refused q p → outcome_answer r ≡ refused q p
  asked_refused r q p left e = outcomes.asked_refused (leaves r left) q p e

-- The contract looks at a log by its questions, its graph and its counts of to words and voices words alone.
module _ (m : Ceilings) (l l₂ : List ℕ) (read : questions m l ≡ questions m l₂) (links : graph_of l ≡ graph_of l₂) (count : heard_count l ≡ heard_count l₂)
    (voices : voices_count l ≡ voices_count l₂) (o w o' w' : List ℕ) where
  passes_same : Passes m l (length o) (length w) → Passes m l₂ (length o) (length w)
  passes_same e =
      sym (asked_same m report_needs l l₂ (length o) (length w) read voices) ∙ e
      ∙ ap₂ (λ (n t : ℕ). given (n, t)) (ap (λ (g : Graph). g.n) links) count

  pub left_same : (r : Outcome) → Left m l o w o' w' r → Left m l₂ o w o' w' r
  unfolding Left
  left_same (Refused q p) (e, out, work) = (sym (asked_same m report_needs l l₂ (length o) (length w) read voices) ∙ e, out, work)
  left_same (Looped c) (e, shown, work) = (passes_same e, subst (λ (g : Graph). ShowsLoop g c o o') links shown, work)
  left_same (Report c) (e, shown, work) = (passes_same e, subst (λ (g : Graph). ShowsReport g c o o') links shown, work)

-- The graph has the episodes, and as many links were heard, as questions 1 to 10 and 18 to 21 count.
pub read_graph : (m : Ceilings) (l : List ℕ) (n t : ℕ) → questions m l ≡ given (n, t)
    → questions m l ≡ given ((graph_of l).n, heard_count l)
read_graph m l n t e = rw (graph_episodes m l n t e, heard_count_words m l n t e) e

-- A log that passes questions 1 to 10 and 18 to 21 passes 11 and 12 too where the buffers are long enough.
pub read_passes : (m : Ceilings) (l : List ℕ) → questions m l ≡ given ((graph_of l).n, heard_count l) → (out work : ℕ)
    → LentEnough l out work → Passes m l out work
read_passes m l e out work (enough, room) =
    asked_passes m report_needs l out work (graph_of l).n (heard_count l) e enough room

-- The graph of an accepted log: its links join episodes, and it is acyclic.
module _ (m : Ceilings) (l : List ℕ) (accepted : Accepted m l) where
  pub accepted_ends : EndsBelow (graph_of l)
  accepted_ends = links_below m l (graph_of l).n (heard_count l) accepted.read

  pub accepted_acyclic : Acyclic (graph_of l)
  accepted_acyclic = (acyclic_no_loop (graph_of l) accepted_ends).1 accepted.no_loop

  -- buffers that are long enough are all that it waits for
  pub accepted_passes : (out work : ℕ) → LentEnough l out work → Passes m l out work
  accepted_passes = read_passes m l accepted.read

-- questions that are answered yes found the buffers long enough
pub passes_enough : (m : Ceilings) (l : List ℕ) (out work : ℕ) → Passes m l out work → LentEnough l out work
passes_enough m l out work e =
    let h = asked_given m report_needs l out work (graph_of l).n (heard_count l) e in
    (h.1, h.2)

-- the width of an acyclic graph, and a heaviest apart set of that weight
pub width_and_apart : (g : Graph) → EndsBelow g → Acyclic g
    → (k : ℕ) × Width g k × ((j : ℕ) → Width g j → j ≡ k) × ((s : List ℕ) × Apart g s × Heaviest g s × (weight g s ≡ k))
width_and_apart g ends acyclic =
    let (ts, s, cover, apart, same) = equal_pair g ends acyclic in
    let both = (duality g ends acyclic ts s cover apart).0 same in
    let width : Width g (length ts) = (ts, cover, both.0, refl) in
    (length ts, width, λ j other. width_unique j (length ts) other width, (s, apart, both.1, sym same))

module _ (m : Ceilings) (l o w o' w' : List ℕ) (c : ℕ) (d : ReportLeft m l o w o' w' c) where
  -- a log that got a report is accepted
  pub report_accepted : Accepted m l
  report_accepted =
      record {
        read = (asked_given m report_needs l (length o) (length w) (graph_of l).n (heard_count l) d.passes).0;
        no_loop = λ k loop. loop_cyclic d.reported.acyclic loop;
      }

  -- the width is the number of its threads
  pub threads_width : Width (graph_of l) (length (threads_of (take c o')))
  threads_width = (threads_of (take c o'), d.reported.cover, d.reported.smallest, refl)

  -- word 0 is of kind 4 and its number is the width
  pub report_width : (kind (get_or (take c o') 0 0) ≡ 4) × Width (graph_of l) (number (get_or (take c o') 0 0))
  report_width =
      let small : Small (length (threads_of (take c o'))) = threads_few m l report_accepted.read d.reported in
      let first : get_or (take c o') 0 0 ≡ word 4 (length (threads_of (take c o'))) =
      ap (λ (ws : List ℕ). get_or ws 0 0) d.words ∙ report_head (apart_of (take c o')) (threads_of (take c o')) in
      let size : number (get_or (take c o') 0 0) ≡ length (threads_of (take c o')) = ap number first ∙ number_word 4 _ small in
      (ap kind first ∙ kind_word 4 _ small, subst (Width (graph_of l)) (sym size) threads_width)

-- What is promised of logs and of calls, each statement in full; the proofs are in the modules that are named. Of a call is said
-- what its contract says, `Left m l o w o' w' r`: `m` are the ceilings, any of them, the service's `service` included; `l` is the log, `o` and
-- `w` are the output and the work buffer at entry, `o'` and `w'` at exit, and `r` is the outcome, of which `outcome_answer` gives the
-- scope's numbers. The report's words are the first `c` of the output, `take c o'`, where `c` is the count that the outcome gives.
use mathlib.Core.Path.{◌≡◌, sym, ap, ap₂, subst, ◌∙◌}
use mathlib.Core.Logic.{◌≢◌, ◌↔◌}
use mathlib.Core.List.{List, [], ◌∷◌, ◌++◌, map, Memᴰ as Mem, Nodup, IsChain}
use Prim.Native.Nat.{ℕ, ◌^◌, ◌≤◌, ◌<◌}
use native.Mathlib.Omega.{arith}
use lib.Chars.{codes}
use lib.ListN.{length, take, drop, get_or}
use Rattle.order.specs.Order.{All, HoldsOne}
use Rattle.paths.specs.Graph.{Graph, Episode, Link, SameLinks, Way, passing_threads, Cover, Apart, weight, Smallest, Heaviest, Width, Furthest, Rising, Loop}
use Rattle.paths.specs.Links.{link_count}
use Rattle.paths.specs.Trimmed.{SameWays, Stays}
use Rattle.paths.specs.OneVoice.{OneVoice}
use Rattle.paths.specs.OneVoice as one
use Rattle.paths.proofs.Theorems as graphs
use Rattle.logs.specs.Words.{kind, number, word}
use Rattle.logs.specs.Answer.{given, refused, reason_number}
use Rattle.logs.specs.Content.{heard_graph, HeardOf, LeastPause, SameContent, longest_pause}
use Rattle.logs.specs.Log.{service, questions, marks_of, voices_by, heard_from, content_of, graph_of, heard_count, voices_count, without_pauses}
use Rattle.logs.specs.Earlier.{Older}
use Rattle.logs.specs.Earlier as earlier
use Rattle.std.specs.Prelude.{Result, Ok, Err}
use Rattle.logs.specs.declared.Ceilings.{Ceilings}
use Rattle.logs.specs.declared.Refusal.{Refusal}
use Rattle.logs.proofs.Asked.{then_given, given_then, then_refused}
use Rattle.logs.proofs.Laws.{links_below, heard_count_words, heard_links_count}
use Rattle.logs.proofs.Laws as laws
use Rattle.logs.proofs.Counts.{same_links, counted_heard, count_at_most, count_whole, whole_where_count, old_graph, short_graph}
use Rattle.logs.proofs.Counts as versions
use Rattle.logs.proofs.Unpaused.{questions_unpaused, graph_unpaused, count_unpaused, voices_count_unpaused}
use Rattle.logs.proofs.Older.{version_older, questions_older, graph_older, no_pause_lem}
use Rattle.link_count.specs.Counted.{count_answer, count_asked}
use Rattle.writing.specs.Layout.{report_words, loop_words, report_need, apart_of, threads_of, BeginsWith}
use Rattle.parsing.specs.Whole.{IsReport, Whole, ThreadNumber, ThreadSteps}
use Rattle.parsing.proofs.Wholes.{report_read}
use Rattle.copying.specs.FairCopy.{fair_words, Precedes, fair_need}
use Rattle.copying.specs.Earlier as earlier-copy
use Rattle.copying.proofs.FairCopies as fair
use Rattle.copying.proofs.Older.{copy_earlier, fair_older, older_same}
use Rattle.trimming.specs.TrimmedCopy.{trimmed, trimmed_words}
use Rattle.trimming.proofs.TrimmedCopies as trimming
use Rattle.report.specs.Report.{outcome_answer, asked, report_needs, cleared, Paired, Reported, LoopShown, Passes, Left}
use Rattle.report.specs.Accepted.{Accepted, LentEnough}
use Rattle.report.specs.declared.Outcome.{Outcome}
use Rattle.report.specs.declared.Outcome.TheVariants.{Report, Loop as Looped, Refused}
use Rattle.fair_copy.specs.Copied.{copy_answer, copy_asked, CopyLeft}
use Rattle.fair_copy.proofs.Copied as copies
use Rattle.trimmed_copy.specs.Trimmed.{trim_answer, TrimPasses, TrimLeft}
use Rattle.trimmed_copy.proofs.Trimmed as trims
use Rattle.input.specs.Input.{words_of}
use Rattle.text.specs.Text.{report_text, refusal_text, loop_text, outcome_text}
use Rattle.text.specs.ReadBack.{text_figures}
use Rattle.text.specs.Printed.{text_bytes, whole_words, TextLeft}
use Rattle.text.specs.declared.Printed.{Printed}
use Rattle.text.proofs.ReadBack as reading
use Rattle.promises.proofs.ThreadsLeft as threads
use Rattle.promises.proofs.Texts as texts
use Rattle.text.proofs.Laws as calls_of_text
use Rattle.promises.proofs.SmallLogs as small
use Rattle.promises.proofs.SmallLogs.{Right, rows, version_rows, voices_rows}
use Rattle.report.proofs.Reported as calls
use Rattle.report.proofs.Reported.{accepted_ends, accepted_acyclic, accepted_passes, passes_enough}

-- 1. Of every accepted log.
module _ (m : Ceilings) (l : List ℕ) (accepted : Accepted m l) where
  -- Duality: a cover has as many threads as an apart set has voices exactly when no cover has fewer threads and no apart set more voices.
  pub duality : (ts : List (List ℕ)) (s : List ℕ) → Cover (graph_of l) ts → Apart (graph_of l) s
      → (length ts ≡ weight (graph_of l) s) ↔ (Smallest (graph_of l) ts × Heaviest (graph_of l) s)
  duality = graphs.duality (graph_of l) (accepted_ends m l accepted) (accepted_acyclic m l accepted)

  -- The width is there, it is one number, and it is the voices of the heaviest apart set together.
  pub width : (k : ℕ) × Width (graph_of l) k
      × ((j : ℕ) → Width (graph_of l) j → j ≡ k)
      × ((s : List ℕ) × Apart (graph_of l) s × Heaviest (graph_of l) s × (weight (graph_of l) s ≡ k))
  width = calls.width_and_apart (graph_of l) (accepted_ends m l accepted) (accepted_acyclic m l accepted)

-- 2. Of every report call.
module _ (m : Ceilings) (l o w o' w' : List ℕ) (r : Outcome) (left : Left m l o w o' w' r) where
  -- An accepted log whose lent buffers pass questions 11 and 12 gets a report. Its threads are a cover, its apart set is one, and the
  -- two numbers, the threads and the voices of the apart set, each counted from the words, are equal. So it is for the empty log too.
  pub report_given : Accepted m l → LentEnough l (length o) (length w)
      → (c : ℕ) × (outcome_answer r ≡ given c)
      × Cover (graph_of l) (threads_of (take c o'))
      × Apart (graph_of l) (apart_of (take c o'))
      × (length (threads_of (take c o')) ≡ weight (graph_of l) (apart_of (take c o')))
  report_given accepted enough =
      let passes = accepted_passes m l accepted (length o) (length w) enough in
      let (c, e) = calls.acyclic_given m l o w o' w' r passes (accepted_acyclic m l accepted) left in
      let d = (calls.given_left m l o w o' w' r c left e).reported in
      (c, e, d.cover, d.furthest.apart, d.paired.same)

  -- An accepted log gets a report exactly when the lent buffers pass questions 11 and 12.
  pub report_exactly : Accepted m l → ((c : ℕ) × (outcome_answer r ≡ given c)) ↔ LentEnough l (length o) (length w)
  report_exactly accepted = (
    λ (c, e). passes_enough m l (length o) (length w) (calls.given_left m l o w o' w' r c left e).passes,
    λ enough. let g = report_given accepted enough in (g.0, g.1),
  )

  -- The outcome is refusal 13 exactly when the log passes questions 1 to 12 and 18 to 21 and its graph has a loop.
  pub loop_exactly : ((k : ℕ) × (outcome_answer r ≡ refused 13 k))
      ↔ (Passes m l (length o) (length w) × ((c : List ℕ) × Loop (graph_of l) c))
  loop_exactly = (
    λ (k, e). let d = calls.refused_left m l o w o' w' r k left e in (d.passes, (d.loop, d.shown.loop)),
    λ (passes, (c, loop)). calls.loop_refused m l o w o' w' r c passes loop left,
  )

  -- Then the output begins with a loop's words, its smallest episode first, and is unchanged behind them. The place is the loop's length.
  -- The first 16,384 work words are zero and the others unchanged.
  pub loop_shown : (k : ℕ) → outcome_answer r ≡ refused 13 k
      → ((c : List ℕ) × LoopShown (graph_of l) c × (length c ≡ k) × BeginsWith (loop_words c) o o') × (w' ≡ cleared w)
  loop_shown k e = let d = calls.refused_left m l o w o' w' r k left e in ((d.loop, d.shown, d.count, d.begins), d.work)

  -- The outcome is another refusal exactly when questions 1 to 12 and 18 to 21 refuse with that number and place. It changes no buffer.
  pub refused_exactly : (q p : ℕ) → q ≢ 13
      → (outcome_answer r ≡ refused q p) ↔ (asked m report_needs l (length o) (length w) ≡ refused q p)
  refused_exactly q p h = (λ e. (calls.refused_asked m l o w o' w' r q p h left e).0, calls.asked_refused m l o w o' w' r q p left)

  pub refused_unchanged : (q p : ℕ) → q ≢ 13 → outcome_answer r ≡ refused q p → (o' ≡ o) × (w' ≡ w)
  refused_unchanged q p h e = let d = calls.refused_asked m l o w o' w' r q p h left e in (d.1, d.2)

-- 3. Of every report call with the outcome of a report.
module _ (m : Ceilings) (l o w o' w' : List ℕ) (r : Outcome) (left : Left m l o w o' w' r) (c : ℕ) (e : outcome_answer r ≡ given c) where
  -- what the proofs below cite
  d : calls.ReportLeft m l o w o' w' c
  d = calls.given_left m l o w o' w' r c left e

  -- The log is an accepted one.
  pub report_accepted : Accepted m l
  report_accepted = calls.report_accepted m l o w o' w' c d

  -- The words are those of the apart set and the threads that they give, and no others.
  pub report_words_lem : take c o' ≡ report_words (apart_of (take c o')) (threads_of (take c o'))
  report_words_lem = d.words

  -- Word 0 is of kind 4 and its number is the width. So are the number of threads and the voices of the apart set together.
  pub report_width : (kind (get_or (take c o') 0 0) ≡ 4) × Width (graph_of l) (number (get_or (take c o') 0 0))
  report_width = calls.report_width m l o w o' w' c d

  pub both_width : Width (graph_of l) (length (threads_of (take c o'))) × Width (graph_of l) (weight (graph_of l) (apart_of (take c o')))
  both_width =
      let k = calls.threads_width m l o w o' w' c d in
      (k, subst (Width (graph_of l)) d.reported.paired.same k)

  -- Behind its words the output is unchanged; the first 16,384 work words are zero and the others unchanged.
  pub report_rest : (o' ≡ take c o' ++ drop c o) × (w' ≡ cleared w)
  report_rest = (d.unchanged, d.work)

  -- No cover has fewer threads.
  pub none_smaller : Cover (graph_of l) (threads_of (take c o')) × Smallest (graph_of l) (threads_of (take c o'))
  none_smaller = (d.reported.cover, d.reported.smallest)

  -- The apart set is the furthest, and it is rising. It is the one of its kind: any other that rises and is the furthest is equal.
  pub apart_furthest : Furthest (graph_of l) (apart_of (take c o')) × Rising (apart_of (take c o'))
  apart_furthest = (d.reported.furthest, d.reported.rising)

  pub one_furthest : (s : List ℕ) → Furthest (graph_of l) s → Rising s → s ≡ apart_of (take c o')
  one_furthest s f h =
      graphs.one_furthest (graph_of l) d.reported.acyclic s (apart_of (take c o')) f d.reported.furthest h d.reported.rising

  -- The threads stand in the members' order, as many for each member as it has voices, and a thread holds no other member.
  pub threads_and_members : Paired (graph_of l) (apart_of (take c o')) (threads_of (take c o'))
  threads_and_members = d.reported.paired

  -- So each thread holds exactly one member, and exactly as many threads as its voices pass each member.
  pub one_member_each : All (HoldsOne (apart_of (take c o'))) (threads_of (take c o'))
  one_member_each =
      graphs.one_member_each (threads_of (take c o')) (apart_of (take c o')) d.reported.cover d.reported.furthest.apart d.reported.paired.same

  pub as_many_threads : (v : ℕ) → Mem v (apart_of (take c o')) → passing_threads v (threads_of (take c o')) ≡ (graph_of l).voices v
  as_many_threads =
      graphs.as_many_threads (threads_of (take c o')) (apart_of (take c o')) d.reported.cover d.reported.furthest.apart d.reported.paired.same

-- 4. Every report on a log that passes questions 1 to 10 and 18 to 21, and every loop, fits the words that question 11 asks for.
pub report_fits : (m : Ceilings) (l : List ℕ) (n t : ℕ) → questions m l ≡ given (n, t) → (apart : List ℕ) (threads : List (List ℕ))
    → Reported (graph_of l) apart threads → length (report_words apart threads) ≤ report_need (graph_of l).n (voices_count l)
report_fits = calls.reported_fits

pub loop_fits : (l c : List ℕ) → Loop (graph_of l) c → length (loop_words c) ≤ report_need (graph_of l).n (voices_count l)
loop_fits l = calls.loop_fits (voices_count l)

-- 5. The scope's small logs, with the service's ceilings: a log passes questions 1 to 10 and 18 to 21 with its row's numbers, and what its row says holds
-- of every call on it.
pub small_logs : All Right rows
small_logs = small.small_logs

-- The same of six small logs with pauses round 360 minutes, of version 0 or 1.
pub small_versions : All Right version_rows
small_versions = small.small_versions

-- The same of small logs with duets and doors.
pub small_voices : All Right voices_rows
small_voices = small.small_voices

-- 6. Of every fair copy call: `CopyLeft m l o w o' w' r` is its contract, and `copy_answer` gives the scope's numbers. The copy's words are the
-- first `c` of the output.
module _ (m : Ceilings) (l o w o' w' : List ℕ) (r : Result ℕ Refusal) (left : CopyLeft m l o w o' w' r) where
  -- A copy is given exactly when questions 1 to 12 and 18 to 21 are answered yes; loops are copied like other links.
  pub copy_exactly : ((c : ℕ) × (copy_answer r ≡ given c)) ↔ (copy_asked m l (length o) (length w) ≡ given ((graph_of l).n, heard_count l))
  copy_exactly = (λ (c, e). (copies.given_left m l o w o' w' r c left e).passes, λ passes. copies.asked_given_count m l o w o' w' r passes left)

  -- It is refused exactly when questions 1 to 12 and 18 to 21 refuse, with that number and place. Then no buffer changes.
  pub copy_refused_exactly : (q p : ℕ) → (copy_answer r ≡ refused q p) ↔ (copy_asked m l (length o) (length w) ≡ refused q p)
  copy_refused_exactly q p = (λ e. (copies.refused_asked m l o w o' w' r q p left e).0, copies.asked_refused m l o w o' w' r q p left)

  pub copy_refused_unchanged : (q p : ℕ) → copy_answer r ≡ refused q p → (o' ≡ o) × (w' ≡ w)
  copy_refused_unchanged q p e = let d = copies.refused_asked m l o w o' w' r q p left e in (d.1, d.2)

module _ (m : Ceilings) (l o w o' w' : List ℕ) (r : Result ℕ Refusal) (left : CopyLeft m l o w o' w' r) (c : ℕ) (e : copy_answer r ≡ given c) where
  -- what the proofs below cite
  copy : copies.CopyGiven m l o w o' w' c
  copy = copies.given_left m l o w o' w' r c left e

  -- The words are those of the fair copy. Behind them the output is unchanged; the first 16,384 work words are zero and the others unchanged.
  pub copy_words_lem : (take c o' ≡ fair_words (content_of l)) × (o' ≡ take c o' ++ drop c o) × (w' ≡ cleared w)
  copy_words_lem = (copy.words, copy.unchanged, copy.work)

  -- They are at most 2 + 2t + v, t being the to words of the log and v its voices words.
  pub copy_fits : c ≤ fair_need (heard_count l) (voices_count l)
  copy_fits = rw copy.count (fair.copy_fits m l _ _ copy.read)

  -- Read back as a log they pass questions 1 to 10 and 18, with the same n and a to word for each link that was heard; and the same links count.
  pub copy_read_back : (questions m (take c o') ≡ given ((graph_of l).n, heard_count (take c o')))
      × SameLinks (graph_of l) (graph_of (take c o'))
  copy_read_back =
      let same = fair.copy_same m l _ _ copy.read in
      let read = calls.read_graph m (fair_words (content_of l)) _ _ (fair.copy_read m l _ _ copy.read) in
      rw copy.words (read ∙ ap (λ (k : ℕ). given (k, heard_count (fair_words (content_of l)))) (sym same.episodes), same)

  -- The version is the same, n, the voices, the set of links that were heard, and the least pause of each.
  pub copy_least_pauses : SameContent (content_of l) (content_of (take c o'))
  copy_least_pauses = rw copy.words (fair.copy_content m l _ _ copy.read)

  -- A link is written with its least pause and no other.
  pub copy_pauses : (a b p : ℕ) → HeardOf (content_of (take c o')) a b p ↔ LeastPause (content_of l) a b p
  copy_pauses a b p = rw copy.words (fair.copy_pauses m l _ _ copy.read a b p)

  -- No link that was heard is repeated.
  pub copy_once : Nodup (heard_graph (content_of (take c o'))).links
  copy_once = rw copy.words (fair.copy_once m l _ _ copy.read)

  -- In the order written the links rise, by the earlier episode and then by the later one; pauses do not matter for it.
  pub copy_rising : IsChain Precedes (heard_graph (content_of (take c o'))).links
  copy_rising = rw copy.words (fair.copy_rising _ _ _ (fair.log_fits m l _ _ copy.read))

  -- The voices words are of the episodes with other voices than one, each with its voices, and they rise.
  pub copy_voices : (v k : ℕ) → Mem {A = ℕ × ℕ} (v, k) (marks_of (drop 1 (take c o'))) ↔ ((v < (graph_of l).n) × ((graph_of l).voices v ≡ k) × (k ≢ 1))
  copy_voices v k = rw copy.words (fair.copy_marked _ _ _ (fair.log_fits m l _ _ copy.read) v k)

  pub copy_voices_rising : Rising (map (λ (s : ℕ × ℕ). s.0) (marks_of (drop 1 (take c o'))))
  copy_voices_rising = rw copy.words (fair.copy_marks_rising _ _ _ (fair.log_fits m l _ _ copy.read))

  -- So the log and its copy have the same ways, covers and apart sets, width and furthest apart set, and the same loops.
  pub copy_ways : (a b : ℕ) → Way (graph_of l) a b ↔ Way (graph_of (take c o')) a b
  copy_ways = graphs.same_ways copy_read_back.1

  pub copy_covers : (ts : List (List ℕ)) → Cover (graph_of l) ts ↔ Cover (graph_of (take c o')) ts
  copy_covers = graphs.same_covers copy_read_back.1

  pub copy_apart : (s : List ℕ) → Apart (graph_of l) s ↔ Apart (graph_of (take c o')) s
  copy_apart = graphs.same_apart copy_read_back.1

  pub copy_width : (k : ℕ) → Width (graph_of l) k ↔ Width (graph_of (take c o')) k
  copy_width = graphs.same_width copy_read_back.1

  pub copy_furthest : (s : List ℕ) → Furthest (graph_of l) s ↔ Furthest (graph_of (take c o')) s
  copy_furthest = graphs.same_furthest copy_read_back.1

  pub copy_loops : (k : List ℕ) → Loop (graph_of l) k ↔ Loop (graph_of (take c o')) k
  copy_loops = graphs.same_loops copy_read_back.1

  -- A second call, at any ceilings and with any buffers, that gives a copy too.
  module _ (m₂ : Ceilings) (l₂ o₂ w₂ o₂' w₂' : List ℕ) (r₂ : Result ℕ Refusal) (left₂ : CopyLeft m₂ l₂ o₂ w₂ o₂' w₂' r₂) (c₂ : ℕ)
      (e₂ : copy_answer r₂ ≡ given c₂) where
    -- The two copies are equal exactly when the versions, n, the voices, the sets of links that were heard and the least pause of each link agree.
    pub copies_equal : (take c o' ≡ take c₂ o₂') ↔ SameContent (content_of l) (content_of l₂)
    copies_equal =
        let second = copies.given_left m₂ l₂ o₂ w₂ o₂' w₂' r₂ c₂ left₂ e₂ in
        rw (copy.words, second.words) (fair.copies_equal m m₂ l l₂ _ _ _ _ copy.read second.read)

    -- So where they are equal, n, the voices and the links that count agree; and of two older logs they are equal exactly then.
    pub copies_links : take c o' ≡ take c₂ o₂' → SameLinks (graph_of l) (graph_of l₂)
    copies_links same = same_links (copies_equal.0 same)

    pub older_copies_equal : Older l → Older l₂ → (take c o' ≡ take c₂ o₂') ↔ SameLinks (graph_of l) (graph_of l₂)
    older_copies_equal older older₂ = (copies_links, λ same. copies_equal.1 (older_same l l₂ older older₂ same))

    -- The copy of a copy is the copy.
    pub copy_again : l₂ ≡ take c o' → take c₂ o₂' ≡ take c o'
    copy_again is-copy =
        let second = copies.given_left m₂ l₂ o₂ w₂ o₂' w₂' r₂ c₂ left₂ e₂ in
        rw (second.words, is-copy, copy.words) (fair.copy_again m l _ _ copy.read)

-- 7. Of asking for thread `i` of any words `ws`: the number `n` that one call gives, by its contract `ThreadNumber ws i n`, and the stretch `s`
-- that the other gives, by its contract `ThreadSteps ws i s`.
module _ (ws : List ℕ) (i n : ℕ) (s : List ℕ) (number-asked : ThreadNumber ws i n) (steps-asked : ThreadSteps ws i s) where
  -- Where the words are no whole report the number is 16, and the stretch is empty.
  pub no_whole_report : (Whole ws → ⊥) → (n ≡ 16) × (s ≡ [])
  no_whole_report = threads.report_refused ws i n s number-asked steps-asked

  -- A whole report gives each of its threads, and 17 behind the last.
  module _ (apart : List ℕ) (ts : List (List ℕ)) (report : IsReport ws apart ts) where
    pub thread_given : i < length ts → (n ≡ 0) × (s ≡ map (word 7) (get_or ts i [])) × (map number s ≡ get_or ts i [])
    thread_given = threads.thread_given ws i n s number-asked steps-asked apart ts report

    pub thread_refused : length ts ≤ i → (n ≡ 17) × (s ≡ [])
    thread_refused = threads.thread_refused ws i n s number-asked steps-asked apart ts report

-- A whole report is that of one apart set and one list of threads, which are read back from its words.
pub one_reading : (ws apart : List ℕ) (ts : List (List ℕ)) → IsReport ws apart ts → (apart_of ws ≡ apart) × (threads_of ws ≡ ts)
one_reading = report_read

-- What a report call left, cut to its count, is a whole report, at ceilings below 256 episodes, as the service's are. So all its threads can
-- be had this way: each `i` below the width gives the steps of thread `i`.
module _ (m : Ceilings) (l o w o' w' : List ℕ) (r : Outcome) (left : Left m l o w o' w' r) (c : ℕ) (e : outcome_answer r ≡ given c)
    (few : m.episodes < 256) where
  pub report_whole : IsReport (take c o') (apart_of (take c o')) (threads_of (take c o'))
  report_whole = threads.left_whole m l o w o' w' c few (calls.given_left m l o w o' w' r c left e)

  pub report_thread : (k i n : ℕ) (s : List ℕ) → Width (graph_of l) k → i < k → ThreadNumber (take c o') i n → ThreadSteps (take c o') i s
      → (n ≡ 0) × (map number s ≡ get_or (threads_of (take c o')) i [])
  report_thread k i n s width below number-asked steps-asked =
      let same : k ≡ length (threads_of (take c o')) = graphs.width_unique k _ width (both_width m l o w o' w' r left c e).0 in
      let given-thread = thread_given (take c o') i n s number-asked steps-asked _ _ report_whole (omega arith) in
      (given-thread.0, given-thread.2)

-- 8. Of every trimmed copy call: `TrimLeft m l o w o' w' r` is its contract, and `trim_answer` gives the scope's numbers. The copy's words are the
-- first `c` of the output. Its questions 1 to 12 and 18 to 21 are those of a fair copy call.
module _ (m : Ceilings) (l o w o' w' : List ℕ) (r : Result ℕ Refusal) (left : TrimLeft m l o w o' w' r) where
  -- A trimmed copy is given exactly when questions 1 to 12 and 18 to 21 are answered yes and the log's graph has no loop.
  pub trim_exactly : ((c : ℕ) × (trim_answer r ≡ given c)) ↔ (TrimPasses m l (length o) (length w) × ((c : List ℕ) → Loop (graph_of l) c → ⊥))
  trim_exactly = (
    λ (c, e). let d = trims.given_left m l o w o' w' r c left e in (d.passes, trims.given_no_loop m l o w o' w' c d),
    λ (passes, none). trims.no_loop_given m l o w o' w' r passes none left,
  )

  -- The outcome is refusal 13 exactly when they are answered yes and the graph has a loop.
  pub trim_loop_exactly : ((k : ℕ) × (trim_answer r ≡ refused 13 k))
      ↔ (TrimPasses m l (length o) (length w) × ((c : List ℕ) × Loop (graph_of l) c))
  trim_loop_exactly = (
    λ (k, e).
        let (passes, (c, shown, count, begins), work) = trims.refused_left m l o w o' w' r k left e in
        (passes, (c, shown.loop)),
    λ (passes, (c, loop)). trims.loop_refused m l o w o' w' r c passes loop left,
  )

  -- Then the output begins with a loop's words, its smallest episode first, and is unchanged behind them. The place is the loop's length.
  -- The first 16,384 work words are zero and the others unchanged.
  pub trim_loop_shown : (k : ℕ) → trim_answer r ≡ refused 13 k
      → ((c : List ℕ) × LoopShown (graph_of l) c × (length c ≡ k) × BeginsWith (loop_words c) o o') × (w' ≡ cleared w)
  trim_loop_shown k e = let d = trims.refused_left m l o w o' w' r k left e in (d.1, d.2)

  -- The outcome is another refusal exactly when questions 1 to 12 and 18 to 21 refuse with that number and place. It changes no buffer.
  pub trim_refused_exactly : (q p : ℕ) → q ≢ 13 → (trim_answer r ≡ refused q p) ↔ (copy_asked m l (length o) (length w) ≡ refused q p)
  trim_refused_exactly q p h = (λ e. (trims.refused_asked m l o w o' w' r q p h left e).0, trims.asked_refused m l o w o' w' r q p left)

  pub trim_refused_unchanged : (q p : ℕ) → q ≢ 13 → trim_answer r ≡ refused q p → (o' ≡ o) × (w' ≡ w)
  trim_refused_unchanged q p h e = let d = trims.refused_asked m l o w o' w' r q p h left e in (d.1, d.2)

module _ (m : Ceilings) (l o w o' w' : List ℕ) (r : Result ℕ Refusal) (left : TrimLeft m l o w o' w' r) (c : ℕ) (e : trim_answer r ≡ given c) where
  -- what the proofs below cite
  trim : trims.TrimGiven m l o w o' w' c
  trim = trims.given_left m l o w o' w' r c left e

  -- The words are those of the trimmed copy. Behind them the output is unchanged; the first 16,384 work words are zero and the others unchanged.
  pub trim_words : (take c o' ≡ trimmed_words (graph_of l)) × (o' ≡ take c o' ++ drop c o) × (w' ≡ cleared w)
  trim_words = (trim.words, trim.unchanged, trim.work)

  -- They are at most 2 + 2t + v, t being the to words of the log and v its voices words.
  pub trim_fits : c ≤ fair_need (heard_count l) (voices_count l)
  trim_fits = rw trim.count (trimming.trim_fits m l _ _ trim.read)

  -- Read back as a log they pass questions 1 to 10 and 18, with the same n and a to word for each link; and the ways are the same.
  pub trim_read_back : (questions m (take c o') ≡ given ((graph_of l).n, heard_count (take c o')))
      × SameWays (graph_of l) (graph_of (take c o'))
  trim_read_back =
      let same = trimming.trim_ways m l _ _ trim.read trim.acyclic in
      let read = calls.read_graph m (trimmed_words (graph_of l)) _ _ (trimming.trim_read m l _ _ trim.read) in
      rw trim.words (read ∙ ap (λ (k : ℕ). given (k, heard_count (trimmed_words (graph_of l)))) (sym same.episodes), same)

  -- The links are those that stay: each is the only thread from its first episode to its second. None is repeated, they rise, and there is no
  -- loop.
  pub trim_links : (a b : ℕ) → Link (graph_of (take c o')) a b ↔ Stays (graph_of l) a b
  trim_links a b = rw trim.words ((trimming.trim_is m l _ _ trim.read).links a b)

  pub trim_once : Nodup (graph_of (take c o')).links
  trim_once = rw trim.words (trimming.trim_once m l _ _ trim.read)

  pub trim_rising : IsChain Precedes (graph_of (take c o')).links
  trim_rising = rw trim.words (trimming.trim_rising m l _ _ trim.read)

  pub trim_no_loop : (k : List ℕ) → Loop (graph_of (take c o')) k → ⊥
  trim_no_loop k = calls.loop_cyclic (graphs.ways_acyclic trim_read_back.1 trim.acyclic)

  -- The copy is of version 0, and each link is written with pause 0.
  pub trim_version : (content_of (take c o')).version ≡ 0
  trim_version = rw trim.words (trimming.trim_version m l _ _ trim.read)

  pub trim_pauses : (a b p : ℕ) → HeardOf (content_of (take c o')) a b p → p ≡ 0
  trim_pauses a b p = rw trim.words (trimming.trim_pause m l _ _ trim.read a b p)

  -- The voices words are of the episodes with other voices than one, each with its voices, and they rise.
  pub trim_voices : (v k : ℕ) → Mem {A = ℕ × ℕ} (v, k) (marks_of (drop 1 (take c o'))) ↔ ((v < (graph_of l).n) × ((graph_of l).voices v ≡ k) × (k ≢ 1))
  trim_voices v k = rw trim.words (trimming.trim_marked m l _ _ trim.read v k)

  pub trim_voices_rising : Rising (map (λ (s : ℕ × ℕ). s.0) (marks_of (drop 1 (take c o'))))
  trim_voices_rising = rw trim.words (trimming.trim_marks_rising m l _ _ trim.read)

  -- So the log and its trimmed copy, which have the same voices, have the same apart sets, width and furthest apart set, and every cover of the copy is a cover of the log.
  pub trim_apart : (s : List ℕ) → Apart (graph_of l) s ↔ Apart (graph_of (take c o')) s
  trim_apart = graphs.ways_apart trim_read_back.1

  pub trim_furthest : (s : List ℕ) → Furthest (graph_of l) s ↔ Furthest (graph_of (take c o')) s
  trim_furthest = graphs.ways_furthest trim_read_back.1

  pub trim_width : (k : ℕ) → Width (graph_of l) k ↔ Width (graph_of (take c o')) k
  trim_width =
      graphs.ways_width (links_below m l _ _ trim.read) (links_below m (take c o') _ _ trim_read_back.0) trim.acyclic trim_read_back.1

  pub trim_cover : (ts : List (List ℕ)) → Cover (graph_of (take c o')) ts → Cover (graph_of l) ts
  trim_cover =
      graphs.more_cover (sym trim_read_back.1.episodes) (λ v h. omega (arith, trim_read_back.1.voices v (rw trim_read_back.1.episodes h)))
      (λ a b k. ((trim_links a b).0 k).link)

  -- It is the least: every log with the same n, voices and ways has each of its links.
  pub trim_least : (l₂ : List ℕ) → SameWays (graph_of l) (graph_of l₂) → (a b : ℕ) → Link (graph_of (take c o')) a b → Link (graph_of l₂) a b
  trim_least l₂ same a b k = graphs.trimmed_least (links_below m l _ _ trim.read) same a b ((trim_links a b).0 k)

  -- A second call, at any ceilings and with any buffers, that gives a trimmed copy too.
  module _ (m₂ : Ceilings) (l₂ o₂ w₂ o₂' w₂' : List ℕ) (r₂ : Result ℕ Refusal) (left₂ : TrimLeft m₂ l₂ o₂ w₂ o₂' w₂' r₂) (c₂ : ℕ)
      (e₂ : trim_answer r₂ ≡ given c₂) where
    -- what the proofs below cite
    second : trims.TrimGiven m₂ l₂ o₂ w₂ o₂' w₂' c₂
    second = trims.given_left m₂ l₂ o₂ w₂ o₂' w₂' r₂ c₂ left₂ e₂

    -- The two trimmed copies are equal exactly when n, the voices and the ways agree, whatever the versions.
    pub trims_equal : (take c o' ≡ take c₂ o₂') ↔ SameWays (graph_of l) (graph_of l₂)
    trims_equal =
        rw (trim.words, second.words)
        (trimming.trims_equal m m₂ l l₂ _ _ _ _ trim.read second.read trim.acyclic second.acyclic)

    -- The trimmed copy of a trimmed copy is the trimmed copy.
    pub trim_again : l₂ ≡ take c o' → take c₂ o₂' ≡ take c o'
    trim_again is-trim = rw (second.words, is-trim, trim.words) (trimming.trim_again m l _ _ trim.read trim.acyclic)

  -- A fair copy call, at any ceilings and with any buffers, that gives a copy.
  module _ (m₂ : Ceilings) (l₂ o₂ w₂ o₂' w₂' : List ℕ) (r₂ : Result ℕ Refusal) (left₂ : CopyLeft m₂ l₂ o₂ w₂ o₂' w₂' r₂) (c₂ : ℕ)
      (e₂ : copy_answer r₂ ≡ given c₂) where
    -- what the proofs below cite
    fair_second : copies.CopyGiven m₂ l₂ o₂ w₂ o₂' w₂' c₂
    fair_second = copies.given_left m₂ l₂ o₂ w₂ o₂' w₂' r₂ c₂ left₂ e₂

    -- The fair copy of a trimmed copy is the trimmed copy itself.
    pub trim_fair : l₂ ≡ take c o' → take c₂ o₂' ≡ take c o'
    trim_fair is-trim = rw (fair_second.words, is-trim, trim.words) (trimming.trim_fair m l _ _ trim.read)

    -- The trimmed copy of a fair copy is that of the log: a third call, on the fair copy.
    module _ (m₃ : Ceilings) (l₃ o₃ w₃ o₃' w₃' : List ℕ) (r₃ : Result ℕ Refusal) (left₃ : TrimLeft m₃ l₃ o₃ w₃ o₃' w₃' r₃) (c₃ : ℕ)
        (e₃ : trim_answer r₃ ≡ given c₃) where
      pub fair_trim : l₂ ≡ l → l₃ ≡ take c₂ o₂' → take c₃ o₃' ≡ take c o'
      fair_trim is-log is-fair =
          let third = trims.given_left m₃ l₃ o₃ w₃ o₃' w₃' r₃ c₃ left₃ e₃ in
          rw (third.words, is-fair, fair_second.words, is-log, trim.words) (trimming.fair_trim m l _ _ trim.read)

-- Every loop of a log that passes questions 1 to 10 and 18 to 21 fits the words that question 11 asks for.
pub trim_loop_fits : (m : Ceilings) (l : List ℕ) (n t : ℕ) → questions m l ≡ given (n, t)
    → (c : List ℕ) → Loop (graph_of l) c → length (loop_words c) ≤ fair_need t (voices_count l)
trim_loop_fits m l n t read c loop = omega (arith, trimming.trim_loop_fits m l n t read c loop)

-- 9. Of every older log, one in which the number of the head is below 16,777,216, that of each to word below 65,536, and no word is a voices word: it is
-- of version 0 and has pause 0 everywhere, and the graph, with one voice for each episode, the answer to questions 1 to 10, the fair copy and the trimmed copy that it had before heads had versions and to
-- words pauses. What it had is said by the definitions as they were then.
module _ (l : List ℕ) (older : Older l) where
  pub older_version : (content_of l).version ≡ 0
  older_version = version_older l older

  pub older_pauses : (a b p : ℕ) → HeardOf (content_of l) a b p → p ≡ 0
  older_pauses a b p m = no_pause_lem l older _ m

  pub older_graph : graph_of l ≡ earlier.graph_of l
  older_graph = graph_older l older

  pub older_questions : (m : Ceilings) → questions m l ≡ earlier.questions m l
  older_questions m = questions_older m l older

  pub older_fair : fair_words (content_of l) ≡ earlier-copy.fair_words (earlier.graph_of l)
  older_fair = fair_older l older

  pub older_trimmed : trimmed_words (graph_of l) ≡ earlier-copy.fair_words (trimmed (earlier.graph_of l))
  unfolding trimmed
  older_trimmed =
      copy_earlier (trimmed (graph_of l)) (λ v h. ap (λ (g : Graph). g.voices v) (graph_older l older))
      ∙ ap (λ (g : Graph). earlier-copy.fair_words (trimmed g)) (graph_older l older)

-- 10. Of every link count call: its contract is that its answer, `count_answer r`, is that of questions 1 to 10 and 18 to 21 and then the link count of the
-- log's graph, `count_asked m l`.
module _ (m : Ceilings) (l : List ℕ) (r : Result ℕ Refusal) (answer : count_answer r ≡ count_asked m l) where
  -- A count is given exactly when questions 1 to 10 and 18 to 21 are answered yes, loops or none, and then it is the log's.
  pub count_exactly : (k : ℕ) → (count_answer r ≡ given k) ↔ (((n : ℕ) × (t : ℕ) × (questions m l ≡ given (n, t))) × (link_count (graph_of l) ≡ k))
  count_exactly k = (
    λ e. let (((n, t), read), same) = then_given (questions m l) (link_count (graph_of l)) k (sym answer ∙ e) in ((n, t, read), same),
    λ ((n, t, read), same). answer ∙ given_then (questions m l) (n, t) (link_count (graph_of l)) k read same,
  )

  -- It is refused exactly when they refuse, with that number and place.
  pub count_refused_exactly : (q p : ℕ) → (count_answer r ≡ refused q p) ↔ (questions m l ≡ refused q p)
  count_refused_exactly q p =
      let same = then_refused (questions m l) (link_count (graph_of l)) q p in
      (λ e. same.0 (sym answer ∙ e), λ e. answer ∙ same.1 e)

module _ (m : Ceilings) (l : List ℕ) (r : Result ℕ Refusal) (answer : count_answer r ≡ count_asked m l) (k : ℕ) (e : count_answer r ≡ given k) where
  -- what the proofs below cite
  counted : link_count (graph_of l) ≡ k
  counted = ((count_exactly m l r answer k).0 e).1

  -- The count is the length of every list without repeats that has exactly the log's links, those that count.
  pub count_listed : (ls : List (ℕ × ℕ)) → Nodup ls → ((a b : ℕ) → Mem {A = ℕ × ℕ} (a, b) ls ↔ Link (graph_of l) a b) → length ls ≡ k
  count_listed ls once same = graphs.count_listed (graph_of l) ls once same ∙ counted

  -- It is at most the count of to words that the reading gives, and equal to it exactly when no link was heard twice and each that was heard counts.
  pub count_words : (n t : ℕ) → questions m l ≡ given (n, t)
      → (k ≤ t)
      × ((k ≡ t) ↔ (Nodup (heard_graph (content_of l)).links × ((a b : ℕ) → Link (heard_graph (content_of l)) a b → Link (graph_of l) a b)))
  count_words n t read =
      let words = heard_links_count m l n t read in
      let few = count_at_most (content_of l) in
      let once = graphs.count_once (heard_graph (content_of l)) in (
        omega (arith, counted, words, few, graphs.count_few (heard_graph (content_of l))),
        (
          λ same. (
            once.0 (omega (arith, counted, words, few, graphs.count_few (heard_graph (content_of l)))),
            whole_where_count (content_of l) (omega (arith, counted, heard_count_words m l n t read)),
          ),
          λ (nodup, all). sym counted ∙ count_whole (content_of l) all ∙ once.1 nodup ∙ words,
        ),
      )

  -- It is at most the count of to words of the fair copy, whichever call gives that, and equal to it in version 0.
  pub count_fair : (m₂ : Ceilings) (o w o' w' : List ℕ) (r₂ : Result ℕ Refusal) → CopyLeft m₂ l o w o' w' r₂ → (c : ℕ) → copy_answer r₂ ≡ given c
      → (j : ℕ) × (questions m₂ (take c o') ≡ given ((graph_of l).n, j)) × (k ≤ j) × ((content_of l).version ≡ 0 → k ≡ j)
  count_fair m₂ o w o' w' r₂ left c e₂ =
      let copy = copies.given_left m₂ l o w o' w' r₂ c left e₂ in (
        link_count (heard_graph (content_of l)),
        rw copy.words (fair.copy_count m₂ l _ _ copy.read),
        omega (arith, counted, count_at_most (content_of l)),
        λ old. sym counted ∙ ap link_count (old_graph (content_of l) old),
      )

  -- Another log with the same links, at any ceilings, has the same count.
  pub counts_equal : (m₂ : Ceilings) (l₂ : List ℕ) (r₂ : Result ℕ Refusal) → count_answer r₂ ≡ count_asked m₂ l₂ → (k₂ : ℕ) → count_answer r₂ ≡ given k₂
      → SameLinks (graph_of l) (graph_of l₂) → k ≡ k₂
  counts_equal m₂ l₂ r₂ answer₂ k₂ e₂ same = sym counted ∙ graphs.count_same same ∙ ((count_exactly m₂ l₂ r₂ answer₂ k₂).0 e₂).1

-- 11. Of versions. In version 0 a link counts whatever its pause; in version 1 it counts exactly when its least pause is at most 360 minutes, that is
-- when some to word gives it with such a pause.
module _ (l : List ℕ) where
  pub version_0_counts : (content_of l).version ≡ 0 → (a b : ℕ) → Link (graph_of l) a b ↔ ((p : ℕ) × HeardOf (content_of l) a b p)
  version_0_counts = versions.old_counts (content_of l)

  pub version_1_counts : (content_of l).version ≡ 1 → (a b : ℕ)
      → Link (graph_of l) a b ↔ ((p : ℕ) × LeastPause (content_of l) a b p × (p ≤ longest_pause))
  version_1_counts = versions.new_counts (content_of l)

  pub version_1_by_some_word : (content_of l).version ≡ 1 → (a b : ℕ) → Link (graph_of l) a b ↔ ((p : ℕ) × HeardOf (content_of l) a b p × (p ≤ longest_pause))
  version_1_by_some_word = versions.new_some (content_of l)

-- A log that passes questions 1 to 10 and 18 to 21 is of one of the two.
pub version_known : (m : Ceilings) (l : List ℕ) (n t : ℕ) → questions m l ≡ given (n, t) → (content_of l).version ≤ 1
version_known = laws.version_known

-- Two logs of version 0.
module _ (l l₂ : List ℕ) (old : (content_of l).version ≡ 0) (old₂ : (content_of l₂).version ≡ 0) where
  -- Where n, the voices and the sets of links that were heard agree the graphs have the same links, so repeats change neither covers nor apart sets.
  module _ (episodes : (content_of l).n ≡ (content_of l₂).n)
      (voices : (v : ℕ) → v < (content_of l).n → (content_of l).voices v ≡ (content_of l₂).voices v)
      (heard : (a b : ℕ) → ((p : ℕ) × HeardOf (content_of l) a b p) ↔ ((p : ℕ) × HeardOf (content_of l₂) a b p)) where
    pub repeats_same : SameLinks (graph_of l) (graph_of l₂)
    repeats_same = versions.old_same (content_of l) (content_of l₂) old old₂ episodes voices heard

    pub repeats_covers : (ts : List (List ℕ)) → Cover (graph_of l) ts ↔ Cover (graph_of l₂) ts
    repeats_covers = graphs.same_covers repeats_same

    pub repeats_apart : (s : List ℕ) → Apart (graph_of l) s ↔ Apart (graph_of l₂) s
    repeats_apart = graphs.same_apart repeats_same

  -- Where they have the same words but for the pauses of to words, they have the same graph. So a report does not depend on pauses: a call on the one
  -- may leave exactly what it may leave on the other.
  module _ (same : without_pauses l ≡ without_pauses l₂) where
    pub graph_without_pauses : graph_of l ≡ graph_of l₂
    graph_without_pauses = sym (graph_unpaused l old) ∙ ap graph_of same ∙ graph_unpaused l₂ old₂

    pub report_without_pauses : (m : Ceilings) (o w o' w' : List ℕ) (r : Outcome) → Left m l o w o' w' r ↔ Left m l₂ o w o' w' r
    report_without_pauses m o w o' w' r =
        let read = sym (questions_unpaused m l) ∙ ap (questions m) same ∙ questions_unpaused m l₂ in
        let links = graph_without_pauses in
        let count = sym (count_unpaused l) ∙ ap heard_count same ∙ count_unpaused l₂ in
        let voices = sym (voices_count_unpaused l) ∙ ap voices_count same ∙ voices_count_unpaused l₂ in (
          calls.left_same m l l₂ read links count voices o w o' w' r,
          calls.left_same m l₂ l (sym read) (sym links) (sym count) (sym voices) o w o' w' r,
        )

-- One log in version 0 and in another one, of which only 1 passes: the same n, and the same words behind the head.
module _ (l₀ l₁ : List ℕ) (old : (content_of l₀).version ≡ 0) (episodes : (content_of l₀).n ≡ (content_of l₁).n) (words : drop 1 l₀ ≡ drop 1 l₁) where
  -- what the proofs below cite
  heard_same : heard_graph (content_of l₁) ≡ heard_graph (content_of l₀)
  heard_same =
      ap₂ (λ (k : ℕ) (ws : List ℕ). heard_graph (record { version = 0; n = k; voices = voices_by (marks_of ws); heard = heard_from 0 ws })) (sym episodes)
      (sym words)

  -- Where no pause is over 360 minutes it has the same graph in both.
  pub short_same : All (λ h. h.pause ≤ longest_pause) (content_of l₁).heard → graph_of l₁ ≡ graph_of l₀
  short_same short = short_graph (content_of l₁) short ∙ heard_same ∙ sym (old_graph (content_of l₀) old)

  -- It has no link in the other version that it does not have in version 0. So every cover there is one in version 0, and version 1 never lowers the
  -- width.
  pub version_links : (a b : ℕ) → Link (graph_of l₁) a b → Link (graph_of l₀) a b
  version_links a b k =
      subst (λ (g : Graph). Link g a b) (heard_same ∙ sym (old_graph (content_of l₀) old)) (counted_heard (content_of l₁) a b k)

  pub version_covers : (ts : List (List ℕ)) → Cover (graph_of l₁) ts → Cover (graph_of l₀) ts
  version_covers = graphs.more_cover (sym episodes) (λ v h. omega (arith, ap (λ (ws : List ℕ). voices_by (marks_of ws) v) words)) version_links

  pub version_width : (j k : ℕ) → Width (graph_of l₀) j → Width (graph_of l₁) k → j ≤ k
  version_width j k (ts, cover, smallest, size) (ts₁, cover₁, smallest₁, size₁) = omega (arith, smallest ts₁ (version_covers ts₁ cover₁))

-- 12. Of voices. A log that passes questions 1 to 10 and 18 to 21: an episode has the voices that a voices word gives it, and one where none names it; none
-- has more than two; and where there is a voices word there are at most 120 episodes.
module _ (m : Ceilings) (l : List ℕ) (n t : ℕ) (read : questions m l ≡ given (n, t)) where
  pub voices_given : (v c : ℕ) → Mem {A = ℕ × ℕ} (v, c) (marks_of (drop 1 l)) → (content_of l).voices v ≡ c
  voices_given v c = laws.marks_voices m l n t read (v, c)

  pub voices_else : (v : ℕ) → (Mem v (map (λ s. s.0) (marks_of (drop 1 l))) → ⊥) → (content_of l).voices v ≡ 1
  voices_else = laws.voices_else l

  pub voices_at_most : (v : ℕ) → v < n → (content_of l).voices v ≤ 2
  voices_at_most = laws.voices_few m l n t read

  pub voices_episodes : 1 ≤ voices_count l → n ≤ 120
  voices_episodes = laws.voices_most m l n t read

  -- Without voices words every episode has one voice.
  pub no_voices_words : voices_count l ≡ 0 → OneVoice (graph_of l)
  no_voices_words none v h = laws.voices_none l none v

-- Where every episode has one voice, covers, apart sets, their weight, the width and the furthest apart set are those of the scope's own text, which knows
-- no voices (`paths/specs/OneVoice.antt`, cited as `one`).
module _ (l : List ℕ) (plain : OneVoice (graph_of l)) where
  pub plain_covers : (ts : List (List ℕ)) → Cover (graph_of l) ts ↔ one.Cover (graph_of l) ts
  plain_covers = graphs.one_cover plain

  pub plain_smallest : (ts : List (List ℕ)) → Smallest (graph_of l) ts ↔ one.Smallest (graph_of l) ts
  plain_smallest = graphs.one_smallest plain

  pub plain_apart : (s : List ℕ) → Apart (graph_of l) s ↔ one.Apart (graph_of l) s
  plain_apart = graphs.one_apart plain

  pub plain_weight : (s : List ℕ) → All (Episode (graph_of l)) s → weight (graph_of l) s ≡ length s
  plain_weight = graphs.one_weight (graph_of l) plain

  pub plain_heaviest : (s : List ℕ) → All (Episode (graph_of l)) s → Heaviest (graph_of l) s ↔ one.Largest (graph_of l) s
  plain_heaviest = graphs.one_largest plain

  pub plain_width : (k : ℕ) → Width (graph_of l) k ↔ one.Width (graph_of l) k
  plain_width = graphs.one_width plain

  pub plain_furthest : (s : List ℕ) → Furthest (graph_of l) s ↔ one.Furthest (graph_of l) s
  plain_furthest = graphs.one_furthest_too plain

-- Two logs with the same episodes and links, and no episode with fewer voices in the second: every cover of the second is one of the first, so its width is
-- at least that of the first.
module _ (l l₂ : List ℕ) (episodes : (graph_of l).n ≡ (graph_of l₂).n) (links : (a b : ℕ) → Link (graph_of l) a b ↔ Link (graph_of l₂) a b)
    (more : (v : ℕ) → Episode (graph_of l) v → (graph_of l).voices v ≤ (graph_of l₂).voices v) where
  pub more_voices_covers : (ts : List (List ℕ)) → Cover (graph_of l₂) ts → Cover (graph_of l) ts
  more_voices_covers = graphs.more_cover (sym episodes) (λ v h. more v (rw episodes h)) (λ a b. (links a b).1)

  pub more_voices_width : (j k : ℕ) → Width (graph_of l) j → Width (graph_of l₂) k → j ≤ k
  more_voices_width j k (ts, cover, smallest, size) (ts₂, cover₂, smallest₂, size₂) = omega (arith, smallest ts₂ (more_voices_covers ts₂ cover₂))

-- 13. Of every text call: `TextLeft m b t o w t' o' w' r` is its contract; `b` are the bytes of a log, `t` is the text buffer at entry and `t'` at exit.
module _ (m : Ceilings) (b t o w t' o' w' : List ℕ) (r : Result Printed Refusal) (left : TextLeft m b t o w t' o' w' r) where
  -- A text is given exactly when the text buffer has 42,640 bytes. Else the refusal is 11 with these, and no buffer changes.
  pub text_exactly : ((p : Printed) × (r ≡ Ok p)) ↔ (text_bytes ≤ length t)
  text_exactly = calls_of_text.text_exactly m b t o w t' o' w' r left

  pub text_refused : (e : Refusal) → r ≡ Err e → (reason_number e.reason ≡ 11) × (e.place ≡ text_bytes) × (t' ≡ t) × (o' ≡ o) × (w' ≡ w)
  text_refused = calls_of_text.text_refused m b t o w t' o' w' r left

-- A text that is given: the first `p.bytes` of the text buffer.
module _ (m : Ceilings) (b t o w t' o' w' : List ℕ) (p : Printed) (left : TextLeft m b t o w t' o' w' (Ok p)) where
  -- Where questions 14 and 15 refuse the bytes, that is the outcome, and neither the output nor a work word changes. Else the outcome and what is left in
  -- both are those of a report call on the words of the bytes; so all that is promised of these holds.
  pub text_bytes_refused : (q k : ℕ) → whole_words b ≡ refused q k → (p.outcome ≡ Refused q k) × (o' ≡ o) × (w' ≡ w)
  text_bytes_refused = texts.text_refused_bytes m b t o w t' o' w' p left

  pub text_call : (n : ℕ) → whole_words b ≡ given n → Left m (words_of b) o w o' w' p.outcome
  text_call = texts.text_call m b t o w t' o' w' p left

  -- The text is that of the outcome. Behind it the text buffer is unchanged. It is never empty.
  pub text_words : (take p.bytes t' ≡ outcome_text (graph_of (words_of b)) o' p.outcome) × (t' ≡ take p.bytes t' ++ drop p.bytes t)
  text_words = texts.text_part m b t o w t' o' w' p left

  pub text_some : 0 < p.bytes
  text_some = texts.text_some m b t o w t' o' w' p left

  -- From the text of a report its figures are read back, line by line: n, the link count, the width, the apart set and the threads, and nothing else.
  pub text_read : (c : ℕ) → p.outcome ≡ Report c
      → text_figures (take p.bytes t')
      ≡ ((graph_of (words_of b)).n ∷ []) ∷ (link_count (graph_of (words_of b)) ∷ []) ∷ (number (get_or (take c o') 0 0) ∷ [])
      ∷ apart_of (take c o') ∷ threads_of (take c o')
  text_read = texts.text_read m b t o w t' o' w' p left

-- So two reports with the same text are the same: they have the same n, the same link count and the same words.
pub text_settles : (m m₂ : Ceilings) (b t o w t' o' w' b₂ t₂ o₂ w₂ t₂' o₂' w₂' : List ℕ) (p p₂ : Printed) → TextLeft m b t o w t' o' w' (Ok p)
    → TextLeft m₂ b₂ t₂ o₂ w₂ t₂' o₂' w₂' (Ok p₂) → (c c₂ : ℕ) → p.outcome ≡ Report c → p₂.outcome ≡ Report c₂
    → take p.bytes t' ≡ take p₂.bytes t₂'
    → ((graph_of (words_of b)).n ≡ (graph_of (words_of b₂)).n) × (link_count (graph_of (words_of b)) ≡ link_count (graph_of (words_of b₂)))
    × (take c o' ≡ take c₂ o₂')
text_settles = texts.same_text

-- The text of a refusal gives its number and its place, and that of a loop its length and its episodes. `at` reads as a number too, always the same.
pub refusal_read : (q p : ℕ) → q < 2 ^ 64 → p < 2 ^ 64 → text_figures (refusal_text q p) ≡ (q ∷ reading.at_read ∷ p ∷ []) ∷ []
refusal_read = texts.refusal_read

pub loop_read : (c : ℕ) (steps : List ℕ) → c < 2 ^ 64
    → text_figures (loop_text c steps) ≡ (13 ∷ reading.at_read ∷ c ∷ []) ∷ map number steps ∷ []
loop_read = reading.loop_read

-- Every text fits 42,640 bytes: that of a report, of a loop, and of a refusal whose number and place are of 32 and 64 bits.
pub text_fits : (l o w o' w' : List ℕ) (c : ℕ) → Left service l o w o' w' (Report c)
    → length (report_text (graph_of l).n (link_count (graph_of l)) (take c o')) ≤ text_bytes
text_fits = texts.report_text_fits

pub loop_text_fits : (l o w o' w' : List ℕ) (c : ℕ) → Left service l o w o' w' (Looped c) → length (loop_text c (take c (drop 1 o'))) ≤ text_bytes
loop_text_fits = texts.loop_text_fits

pub refusal_text_fits : (q p : ℕ) → q < 2 ^ 32 → p < 2 ^ 64 → length (refusal_text q p) ≤ text_bytes
refusal_text_fits = texts.refusal_text_fits

-- The scope's whole example: its report's text is the scope's seven lines, and every call on its bytes whose buffers are long enough leaves them.
pub whole_example : report_text 5 2 texts.example_report ≡ codes "episodes 5\nlinks 2\nwidth 3\napart 1 3 4\nthread 0 1\nthread 2 3\nthread 4\n"
whole_example = texts.example_text

pub whole_example_printed : (t o w t' o' w' : List ℕ) (p : Printed) → TextLeft service texts.example_bytes t o w t' o' w' (Ok p)
    → LentEnough (words_of texts.example_bytes) (length o) (length w)
    → take p.bytes t' ≡ codes "episodes 5\nlinks 2\nwidth 3\napart 1 3 4\nthread 0 1\nthread 2 3\nthread 4\n"
whole_example_printed = texts.example_printed

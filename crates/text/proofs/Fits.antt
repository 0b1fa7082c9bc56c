-- What a report call leaves is printed in few enough bytes, whatever its outcome.
use mathlib.Core.Path.{◌≡◌, refl, sym, ap, ◌∙◌}
use mathlib.Core.List.{List, map}
use Prim.Native.Nat.{ℕ, zero, suc, ◌+◌, ◌*◌, ◌≤◌, ◌<◌}
use native.Mathlib.Omega.{arith}
use lib.ListN.{length, get_or, take, drop, length-map}
use lib.Seq.{take_at}
use Rattle.order.specs.Order.{All}
use Rattle.paths.specs.Graph.{Graph, weight}
use Rattle.paths.specs.Links.{link_count}
use Rattle.paths.proofs.OneVoice.{one_weight}
use Rattle.paths.proofs.Fits.{weight_few}
use Rattle.paths.proofs.Theorems.{different_below, count_few}
use Rattle.logs.specs.Words.{number, word}
use Rattle.logs.specs.Answer.{given}
use Rattle.logs.specs.Log.{service, questions, graph_of, heard_count, voices_count}
use Rattle.logs.proofs.Words.{number_word}
use Rattle.logs.proofs.Laws.{few_episodes, few_words, graph_links_few, voices_none, voices_few, voices_most}
use Rattle.writing.specs.Layout.{report_words, loop_words, report_need, apart_of, threads_of}
use Rattle.writing.proofs.Layouts.{report_head, numbers_of}
use Rattle.report.specs.Report.{report_needs}
use Rattle.report.proofs.Asked.{asked_given}
use Rattle.report.proofs.Reported.{ReportLeft, LoopLeft, report_accepted, threads_few, reported_fits}
use Rattle.text.specs.Text.{report_text, loop_text}
use Rattle.text.specs.Printed.{text_bytes}
use Rattle.text.proofs.Room.{report_length, loop_length, need_few, need_with_voices}

-- of a report
module _ (l o w o' w' : List ℕ) (c : ℕ) (d : ReportLeft service l o w o' w' c) where
  abbrev g : Graph
  g = graph_of l

  abbrev ws : List ℕ
  ws = take c o'

  read : questions service l ≡ given (g.n, heard_count l)
  read = (report_accepted service l o w o' w' c d).read

  episodes : g.n ≤ 200
  episodes = few_episodes service l g.n (heard_count l) read

  links : link_count g ≤ 4096
  links =
      omega (arith, count_few g, graph_links_few service l g.n (heard_count l) read, few_words service l g.n (heard_count l) read)

  -- the threads are as many as the apart set has voices
  width : number (get_or ws 0 0) ≡ length (threads_of ws)
  width =
      ap (λ (x : List ℕ). number (get_or x 0 0)) d.words
      ∙ ap number (report_head (apart_of ws) (threads_of ws))
      ∙ number_word 4 _ (threads_few service l read d.reported)

  members : length (apart_of ws) ≤ g.n
  members = different_below g.n (apart_of ws) d.reported.furthest.apart.antichain.once d.reported.furthest.apart.episodes

  -- at most two for each member
  two : length (threads_of ws) ≤ length (apart_of ws) + length (apart_of ws)
  two =
      omega (
        arith,
        d.reported.paired.same,
        weight_few g (apart_of ws) (λ v h. voices_few service l g.n (heard_count l) read v h) d.reported.furthest.apart.episodes,
      )

  count : length (report_words (apart_of ws) (threads_of ws)) ≡ c
  count = sym (ap length d.words) ∙ d.count

  -- 4 bytes for each word, 3 more for each thread
  bytes : 4 * c + 3 * length (threads_of ws) + 32 ≤ text_bytes
  bytes = go (voices_count l) refl
    where
      need : c ≤ report_need g.n (voices_count l)
      need = omega (arith, count, reported_fits service l g.n (heard_count l) read (apart_of ws) (threads_of ws) d.reported)

      go : (v : ℕ) → voices_count l ≡ v → 4 * c + 3 * length (threads_of ws) + 32 ≤ text_bytes
      go zero e =
          let one : weight g (apart_of ws) ≡ length (apart_of ws) =
          one_weight g (λ v h. voices_none l e v) (apart_of ws) d.reported.furthest.apart.episodes in
          omega (arith, rw e at need, need_few g.n episodes, members, one, d.reported.paired.same, episodes)
      go (suc v) e =
          let most : g.n ≤ 120 = voices_most service l g.n (heard_count l) read (omega (arith, e)) in
          omega (arith, rw e at need, need_with_voices g.n v most, members, two, most)

  pub report_fits : length (report_text g.n (link_count g) ws) ≤ text_bytes
  report_fits =
      omega (
        arith,
        bytes,
        d.count,
        report_length g.n (link_count g) ws (apart_of ws) (threads_of ws) (omega (arith, episodes)) (omega (arith, links))
            (omega (arith, two, members, episodes))
            (λ v m. let h : v < g.n = d.reported.furthest.apart.episodes v m in omega (arith, episodes, h))
            (λ t m v i. let h : v < g.n = (d.reported.cover.threads t m).episodes v i in omega (arith, episodes, h))
            refl refl width (ap length d.words),
      )

-- of a loop
module _ (l o w o' w' : List ℕ) (c : ℕ) (d : LoopLeft service l o w o' w' c) where
  loop_below : (graph_of l).n ≤ 200
  loop_below =
      few_episodes service l (graph_of l).n (heard_count l)
      (asked_given service report_needs l (length o) (length w) (graph_of l).n (heard_count l) d.passes).0

  small : All (λ v. v < 1000) d.loop
  small v m = let h : v < (graph_of l).n = d.shown.loop.episodes v m in omega (arith, loop_below)

  steps : map number (take c (drop 1 o')) ≡ d.loop
  unfolding loop_words
  steps =
      ap (λ (x : List ℕ). map number (take c (drop 1 x))) d.begins.1
      ∙ ap (map number) (take_at (map (word 7) d.loop) _ c (length-map d.loop (word 7) ∙ d.count))
      ∙ numbers_of 7 d.loop (λ v m. omega (arith, small v m))

  pub loop_fits : length (loop_text c (take c (drop 1 o'))) ≤ text_bytes
  loop_fits =
      let short : length d.loop ≤ (graph_of l).n = different_below (graph_of l).n d.loop d.shown.loop.once d.shown.loop.episodes in
      omega (
        arith,
        loop_length c (take c (drop 1 o')) d.loop (omega (arith, short, loop_below, d.count)) small steps d.count,
        short,
        loop_below,
        d.count,
      )

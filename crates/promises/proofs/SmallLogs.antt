-- The scope's small logs, those that are to be proved, small logs of both versions, and small logs with voices: three lists of rows, and a theorem of
-- each.
use mathlib.Core.Path.{◌≡◌}
use mathlib.Core.Logic.Dec
use mathlib.Core.Bool.{Bool, false, ◌&&◌}
use mathlib.Core.List.{List, [], ◌∷◌}
use Prim.Native.Nat.{ℕ}
use native.Mathlib.Decide.{ℕ_discrete}
use lib.Dec.{T, eqb, eqb→eq}
use Rattle.order.specs.Order.{All}
use Rattle.paths.specs.Links.{linked, distinct, link_count}
use Rattle.paths.proofs.Checker.{both, each, each_right}
use Rattle.logs.specs.Content.{pauses_of, least, counting}
use Rattle.logs.specs.Answer.{Answer, given, refused}
use Rattle.logs.specs.Log.{service, onwards, group_word, end_word, marked, voices_asked, voices_onwards, questions, heard_from, marks_of, graph_of}
use Rattle.report.specs.Report.{Left}
use Rattle.report.specs.declared.Outcome.{Outcome}
use Rattle.report.proofs.Reported.{read_graph}
use Rattle.promises.proofs.Said.{Said, report, parts, loop, short, Shown, said_test, said_right}

-- a log's words, its episodes, its to words and its link count, and what is said of it
pub record Row : Type 0 where
  pub log : List ℕ
  pub episodes : ℕ
  pub words : ℕ
  pub links : ℕ
  pub says : Said

-- the rows, in the scope's order
abbrev pub rows : List Row
rows =
    -- n = 0, no links
    record { log = 0x10000000 ∷ 0xF0000000 ∷ []; episodes = 0; words = 0; links = 0; says = report (0x40000000 ∷ 0xF0000001 ∷ []) }
    -- n = 1, no links
    ∷ record {
      log = 0x10000001 ∷ 0xF0000000 ∷ [];
      episodes = 1;
      words = 0;
      links = 0;
      says = report (0x40000001 ∷ 0x50000000 ∷ 0x60000001 ∷ 0x70000000 ∷ 0xF0000004 ∷ []);
    }
    -- the whole example
    ∷ record {
      log = 0x10000005 ∷ 0x20000000 ∷ 0x30000001 ∷ 0x20000002 ∷ 0x30000003 ∷ 0xF0000002 ∷ [];
      episodes = 5;
      words = 2;
      links = 2;
      says =
          report (
          0x40000003 ∷ 0x50000001 ∷ 0x50000003 ∷ 0x50000004
          ∷ 0x60000002 ∷ 0x70000000 ∷ 0x70000001 ∷ 0x60000002 ∷ 0x70000002 ∷ 0x70000003 ∷ 0x60000001 ∷ 0x70000004
          ∷ 0xF000000C ∷ []
          );
    }
    -- n = 5, links 0-2, 1-2, 2-3, 2-4: both threads pass 2
    ∷ record {
      log = 0x10000005 ∷ 0x20000000 ∷ 0x30000002 ∷ 0x20000001 ∷ 0x30000002 ∷ 0x20000002 ∷ 0x30000003 ∷ 0x30000004 ∷ 0xF0000004 ∷ [];
      episodes = 5;
      words = 4;
      links = 4;
      says = parts 2 (3 ∷ 4 ∷ []) (2 ∷ []);
    }
    -- n = 3, links 0-1, 1-2, 0-2: thread 0 1 2
    ∷ record {
      log = 0x10000003 ∷ 0x20000000 ∷ 0x30000001 ∷ 0x20000001 ∷ 0x30000002 ∷ 0x20000000 ∷ 0x30000002 ∷ 0xF0000003 ∷ [];
      episodes = 3;
      words = 3;
      links = 3;
      says =
          report (0x40000001 ∷ 0x50000002 ∷ 0x60000003 ∷ 0x70000000 ∷ 0x70000001 ∷ 0x70000002 ∷ 0xF0000006 ∷ []);
    }
    -- n = 4, links 0-1, 0-2, 1-3, 2-3
    ∷ record {
      log = 0x10000004 ∷ 0x20000000 ∷ 0x30000001 ∷ 0x30000002 ∷ 0x20000001 ∷ 0x30000003 ∷ 0x20000002 ∷ 0x30000003 ∷ 0xF0000004 ∷ [];
      episodes = 4;
      words = 4;
      links = 4;
      says = parts 2 (1 ∷ 2 ∷ []) [];
    }
    -- n = 2, 0-1 twice
    ∷ record {
      log = 0x10000002 ∷ 0x20000000 ∷ 0x30000001 ∷ 0x30000001 ∷ 0xF0000002 ∷ [];
      episodes = 2;
      words = 2;
      links = 1;
      says = parts 1 (1 ∷ []) [];
    }
    -- n = 2, 0-1 and 1-0
    ∷ record {
      log = 0x10000002 ∷ 0x20000000 ∷ 0x30000001 ∷ 0x20000001 ∷ 0x30000000 ∷ 0xF0000002 ∷ [];
      episodes = 2;
      words = 2;
      links = 2;
      says = loop 2 (0x80000002 ∷ 0x70000000 ∷ 0x70000001 ∷ []);
    }
    -- n = 1, 0-0
    ∷ record {
      log = 0x10000001 ∷ 0x20000000 ∷ 0x30000000 ∷ 0xF0000001 ∷ [];
      episodes = 1;
      words = 1;
      links = 1;
      says = loop 1 (0x80000001 ∷ 0x70000000 ∷ []);
    }
    -- n = 1, no links, output of 4 words
    ∷ record { log = 0x10000001 ∷ 0xF0000000 ∷ []; episodes = 1; words = 0; links = 0; says = short 4 5 }
    ∷ []

-- rows of both versions
abbrev pub version_rows : List Row
version_rows =
    -- version 1, 0-1 after 360 minutes
    record {
      log = 0x11000002 ∷ 0x20000000 ∷ 0x31680001 ∷ 0xF0000001 ∷ [];
      episodes = 2;
      words = 1;
      links = 1;
      says = report (0x40000001 ∷ 0x50000001 ∷ 0x60000002 ∷ 0x70000000 ∷ 0x70000001 ∷ 0xF0000005 ∷ []);
    }
    -- version 1, the whole example's links and 3-4 after 361 minutes
    ∷ record {
      log = 0x11000005 ∷ 0x20000000 ∷ 0x30000001 ∷ 0x20000002 ∷ 0x30000003 ∷ 0x20000003 ∷ 0x31690004 ∷ 0xF0000003 ∷ [];
      episodes = 5;
      words = 3;
      links = 2;
      says =
          report (
          0x40000003 ∷ 0x50000001 ∷ 0x50000003 ∷ 0x50000004
          ∷ 0x60000002 ∷ 0x70000000 ∷ 0x70000001 ∷ 0x60000002 ∷ 0x70000002 ∷ 0x70000003 ∷ 0x60000001 ∷ 0x70000004
          ∷ 0xF000000C ∷ []
          );
    }
    -- version 0, 0-1 after 361 minutes
    ∷ record {
      log = 0x10000002 ∷ 0x20000000 ∷ 0x31690001 ∷ 0xF0000001 ∷ [];
      episodes = 2;
      words = 1;
      links = 1;
      says = report (0x40000001 ∷ 0x50000001 ∷ 0x60000002 ∷ 0x70000000 ∷ 0x70000001 ∷ 0xF0000005 ∷ []);
    }
    -- version 1, 0-1 after 400 minutes and after 200
    ∷ record {
      log = 0x11000002 ∷ 0x20000000 ∷ 0x31900001 ∷ 0x30C80001 ∷ 0xF0000002 ∷ [];
      episodes = 2;
      words = 2;
      links = 1;
      says = report (0x40000001 ∷ 0x50000001 ∷ 0x60000002 ∷ 0x70000000 ∷ 0x70000001 ∷ 0xF0000005 ∷ []);
    }
    -- version 1, 0-1 at once and 1-0 after 361 minutes
    ∷ record {
      log = 0x11000002 ∷ 0x20000000 ∷ 0x30000001 ∷ 0x20000001 ∷ 0x31690000 ∷ 0xF0000002 ∷ [];
      episodes = 2;
      words = 2;
      links = 1;
      says = report (0x40000001 ∷ 0x50000001 ∷ 0x60000002 ∷ 0x70000000 ∷ 0x70000001 ∷ 0xF0000005 ∷ []);
    }
    -- version 0, the same: a loop
    ∷ record {
      log = 0x10000002 ∷ 0x20000000 ∷ 0x30000001 ∷ 0x20000001 ∷ 0x31690000 ∷ 0xF0000002 ∷ [];
      episodes = 2;
      words = 2;
      links = 2;
      says = loop 2 (0x80000002 ∷ 0x70000000 ∷ 0x70000001 ∷ []);
    }
    ∷ []

-- rows with duets and doors
abbrev pub voices_rows : List Row
voices_rows =
    -- one episode, a door: nobody is needed for it
    record {
      log = 0x10000001 ∷ 0x90000000 ∷ 0xF0000000 ∷ [];
      episodes = 1;
      words = 0;
      links = 0;
      says = report (0x40000000 ∷ 0xF0000001 ∷ []);
    }
    -- one episode, a duet: two threads of it
    ∷ record {
      log = 0x10000001 ∷ 0x90020000 ∷ 0xF0000000 ∷ [];
      episodes = 1;
      words = 0;
      links = 0;
      says = report (0x40000002 ∷ 0x50000000 ∷ 0x60000001 ∷ 0x70000000 ∷ 0x60000001 ∷ 0x70000000 ∷ 0xF0000006 ∷ []);
    }
    -- 0-1, a duet and one voice: 0 is heavier
    ∷ record {
      log = 0x10000002 ∷ 0x90020000 ∷ 0x20000000 ∷ 0x30000001 ∷ 0xF0000001 ∷ [];
      episodes = 2;
      words = 1;
      links = 1;
      says = parts 2 (0 ∷ []) (0 ∷ []);
    }
    -- 0-1, one voice and a duet: both threads pass 1
    ∷ record {
      log = 0x10000002 ∷ 0x90020001 ∷ 0x20000000 ∷ 0x30000001 ∷ 0xF0000001 ∷ [];
      episodes = 2;
      words = 1;
      links = 1;
      says = parts 2 (1 ∷ []) (1 ∷ []);
    }
    -- 0-1, a door and a duet, the voices words falling
    ∷ record {
      log = 0x10000002 ∷ 0x90020001 ∷ 0x90000000 ∷ 0x20000000 ∷ 0x30000001 ∷ 0xF0000001 ∷ [];
      episodes = 2;
      words = 1;
      links = 1;
      says = parts 2 (1 ∷ []) (1 ∷ []);
    }
    -- 0-1, two duets, two heaviest sets of which 1 is further along: both threads are 0 1
    ∷ record {
      log = 0x10000002 ∷ 0x90020000 ∷ 0x90020001 ∷ 0x20000000 ∷ 0x30000001 ∷ 0xF0000001 ∷ [];
      episodes = 2;
      words = 1;
      links = 1;
      says = parts 2 (1 ∷ []) (1 ∷ []);
    }
    -- 0-1, 1-2, all doors
    ∷ record {
      log = 0x10000003 ∷ 0x90000000 ∷ 0x90000001 ∷ 0x90000002 ∷ 0x20000000 ∷ 0x30000001 ∷ 0x20000001 ∷ 0x30000002 ∷ 0xF0000002 ∷ [];
      episodes = 3;
      words = 2;
      links = 2;
      says = report (0x40000000 ∷ 0xF0000001 ∷ []);
    }
    -- 0-2, 1-2, 2-3, 2-4, 2-5 with duets 0 and 1: two members weigh more than the three others
    ∷ record {
      log =
          0x10000006 ∷ 0x90020000 ∷ 0x90020001 ∷ 0x20000000 ∷ 0x30000002 ∷ 0x20000001 ∷ 0x30000002 ∷ 0x20000002 ∷ 0x30000003 ∷ 0x30000004 ∷ 0x30000005
          ∷ 0xF0000005 ∷ [];
      episodes = 6;
      words = 5;
      links = 5;
      says = parts 4 (0 ∷ 1 ∷ []) [];
    }
    -- one episode, a voices word that says 1: the words of a log with voices words are asked for
    ∷ record { log = 0x10000001 ∷ 0x90010000 ∷ 0xF0000000 ∷ []; episodes = 1; words = 0; links = 0; says = short 6 7 }
    ∷ []

-- A row is right: the log passes questions 1 to 10 and 18 to 21 with its episodes and to words, its graph has its link count, and what is said holds of
-- every call.
abbrev pub Right : Row → Type 0
Right row =
    (questions service row.log ≡ given (row.episodes, row.words))
    × (link_count (graph_of row.log) ≡ row.links)
    × ((o w o' w' : List ℕ) (r : Outcome) → Left service row.log o w o' w' r → Shown row.log row.says o w o' w' r)

-- the answer `a` gives `n` and `t`
gives : Answer (ℕ × ℕ) → ℕ → ℕ → Bool
gives (given (j, u)) n t = eqb j n && eqb u t
gives (refused q p) n t = false

gives_right : (a : Answer (ℕ × ℕ)) (n t : ℕ) → T (gives a n t) → a ≡ given (n, t)
unfolding gives
gives_right (given (j, u)) n t h =
    let q = both (eqb j n) (eqb u t) h in
    let e : j ≡ n = eqb→eq j n q.0 in
    let f : u ≡ t = eqb→eq u t q.1 in
    λ i. given (e i, f i)
gives_right (refused q p) n t h = absurd h

-- the test of a row
row_test : Row → Bool
row_test row =
    gives (questions service row.log) row.episodes row.words
    && (eqb (link_count (graph_of row.log)) row.links && said_test row.log row.says)

rows_pass : T (each row_test rows)
unfolding each row_test gives said_test questions voices_onwards onwards group_word end_word heard_from marks_of counting linked distinct
rows_pass = tt

version_rows_pass : T (each row_test version_rows)
unfolding each row_test gives said_test questions voices_onwards onwards group_word end_word heard_from marks_of pauses_of least Dec.and ℕ_discrete counting linked distinct
version_rows_pass = tt

voices_rows_pass : T (each row_test voices_rows)
unfolding each row_test gives said_test questions voices_onwards voices_asked marked onwards group_word end_word heard_from marks_of counting linked distinct
voices_rows_pass = tt

-- a row that passes is right
row_right : (row : Row) → T (row_test row) → Right row
unfolding row_test
row_right row h =
    let passed = gives (questions service row.log) row.episodes row.words in
    let counted = eqb (link_count (graph_of row.log)) row.links in
    let said = said_test row.log row.says in
    let q = both passed (counted && said) h in
    let p = both counted said q.1 in
    let read = gives_right (questions service row.log) row.episodes row.words q.0 in
    let graph = read_graph service row.log row.episodes row.words read in (
      read,
      eqb→eq (link_count (graph_of row.log)) row.links p.0,
      λ o w o' w' r left. said_right service row.log graph o w o' w' r left row.says p.1,
    )

-- Every row is right.
pub small_logs : All Right rows
small_logs row i = row_right row (each_right row_test rows rows_pass row i)

pub small_voices : All Right voices_rows
small_voices row i = row_right row (each_right row_test voices_rows voices_rows_pass row i)

pub small_versions : All Right version_rows
small_versions row i = row_right row (each_right row_test version_rows version_rows_pass row i)

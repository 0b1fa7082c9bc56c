-- `next` of the groups of a log meets its contract: a to word stands behind a from word, and behind the to words another group starts.
-- Assumes nothing.
use mathlib.Core.Path.{◌≡◌, refl}
use mathlib.Core.Bool.{true}
use Prim.Native.Nat.{◌+◌, ◌<◌}
use native.Mathlib.Omega.{arith}
use lib.ListN.{length}
use Rattle.logs.specs.Log.{to_before_last}
use Rattle.logs.proofs.Walk.{group_behind, to_behind, starts_next, words_before}
use Rattle.logs.proofs.passed.GroupsIterator.next.Goals as goal
use Rattle.logs.proofs.passed.GroupsIterator.next.Goals.{Else-at-words}

-- the group has a to word, and the last word stands behind that
behind : (c : Else-at-words) → let s = c.args.self.now in (s.at + 2 < length s.log.words.now) × (to_before_last s.log.words.now (s.at + 1) ≡ true)
behind c =
    let s = c.args.self.now in
    to_behind s.log.words.now s.log.episodes s.log.to_words s.log.passes s.at s.here (omega (arith, c.if-at-words.false, s.here.within))

pub group_end-end-requires : goal.group_end-end-requires
group_end-end-requires c = (behind c).0

pub invariant_of-self : goal.invariant_of-self
invariant_of-self c =
    let s = c.args.self.now in
    let group = c.group_end-end.ensures in
    let behind = group_behind s.log.words.now s.log.episodes s.log.to_words s.log.passes s.at s.here (omega (arith, c.if-at-words.false, s.here.within)) in
    record { here = starts_next s.log.words.now s.log.episodes s.log.to_words s.log.passes (s.at + 2) _ (omega arith) group.0 group.1 }

pub returns-clause-steps : goal.returns-clause-steps
returns-clause-steps c =
    let s = c.args.self.now in
    let group = c.group_end-end.ensures in
    let two : s.at + 2 ≡ s.at + 1 + 1 = omega arith in
    let (inner, to) = behind (goal.at.returns-clause-steps c).Else-at-words in
    record {
      same = refl;
      inner = omega arith;
      from = c.number_of.ensures;
      to_words = refl;
      words = words_before s.log.words.now (s.at + 1) _ to (rw two at group.0);
      end = group.1;
    }

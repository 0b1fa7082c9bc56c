use native.Mathlib.Omega.{arith}
use mathlib.Core.Path.{◌≡◌, ◌∙◌, ap, sym}
use mathlib.Core.Logic.{◌≢◌}
use lib.ListN.{get_or}
use Rattle.std.proofs.Common.{rules, lt-ltb}
use Rattle.logs.specs.Words.{number}
use Rattle.logs.specs.declared.LogWord.TheVariants.{From}
use Prim.Native.Nat.{◌+◌, ◌-◌}
use Rattle.logs.proofs.Groups.{from_episode, from_told, from_number, from_given_up, to_given_up, at_last}
use Rattle.logs.proofs.Hearing.{heard_none, heard_from, next_link, heard_on, heard_behind}
use Rattle.logs.proofs.Questions.first_stop.Goals as goal
use Rattle.logs.proofs.Questions.first_stop.Goals.{then-at-last, else-at-last+in_default, in_default-via-in_default, in_default-via-in-Ok+in_default, else-at-last+in-Ok-From+in_default-to_word}

pub log-init : goal.log-init
log-init g c = heard_none (g.H.Hear.heard c.args.hearer.now) _ _ _ _ c.requires.0 c.requires.4

pub row-row-requires : goal.row-row-requires
row-row-requires g c =
    let at = c.log in
    let answer = rw at.invariant.moved at c.group_word.ensures in
    let episode = from_episode _ _ _ _ at.at (at.at - at.others) at.invariant.group (omega (arith, at.invariant.group.within)) _ answer _ c.in-Ok-From.is in
    let told = from_told _ _ _ _ at.at (at.at - at.others) at.invariant.group (omega (arith, at.invariant.group.within)) _ answer _ c.in-Ok-From.is in
    let same : c.in-Ok-From.from ≡ number (get_or c.args.self.log.now at.at 0) = from_number (sym c.in-Ok-From.field-0-is ∙ told) in
    (c.args.self.most.episodes, c.requires.3, omega (arith, episode.1, c.requires.2, same))

pub loop-to-init : goal.loop-to-init
loop-to-init g c =
    let at = c.log in
    let answer = rw at.invariant.moved at c.group_word.ensures in
    let told = from_told _ _ _ _ at.at (at.at - at.others) at.invariant.group (omega (arith, at.invariant.group.within)) _ answer _ c.in-Ok-From.is in
    let same : c.in-Ok-From.from ≡ number (get_or c.args.self.log.now at.at 0) = from_number (sym c.in-Ok-From.field-0-is ∙ told) in (
      heard_from (g.H.Hear.heard at.hearer) _ _ _ _ g.H.Hear.row_of at.at at.others _ at.invariant (omega (arith, at.invariant.group.within)) _ answer _
          c.in-Ok-From.is (c.row-row.ensures ∙ ap g.H.Hear.row_of same),
      omega arith,
    )

pub tell-requires : goal.tell-requires
tell-requires g c =
    let at = c.loop-to in
    next_link _ g.H.Hear.takes g.H.Hear.row_of _ _ _ _ at.at (c.log.others + 1) _ at.invariant.0 c.requires.3 c.requires.2 _ c.to_word.ensures _ c.in-Ok.is (omega arith)

pub log-preserved : goal.log-preserved
log-preserved g c =
    let at = c.loop-to in
    heard_behind _ g.H.Hear.takes g.H.Hear.row_of _ _ _ _ at.at (c.log.others + 1) _ at.invariant.0 c.requires.3 c.requires.2 _ c.to_word.ensures _ c.in-Ok.is
    (g.H.Hear.heard c.tell.new.hearer) _ c.requires.1 c.tell.ensures (omega arith) (cc (c.to_before_last.ensures, c.if-not-to_before_last.true))

pub loop-to-preserved : goal.loop-to-preserved
loop-to-preserved g c =
    let at = c.loop-to in (
      heard_on _ g.H.Hear.takes g.H.Hear.row_of _ _ _ _ at.at (c.log.others + 1) _ at.invariant.0 c.requires.3 c.requires.2 _ c.to_word.ensures _ c.in-Ok.is
          (g.H.Hear.heard c.tell.new.hearer) _ c.requires.1 c.tell.ensures (omega arith) (cc (c.to_before_last.ensures, c.if-not-to_before_last.false)),
      omega arith,
    )

-- the loops are left at the last word, at a word where a group begins, or at a to word of a group
pub returns : goal.returns
returns g c =
    let at = c.log in
    elim c.if-at-last.branch [
      | then-at-last u ↦
          rw (u.hearer-is, u.others-is, u.place-is)
          (at_last _ _ _ _ at.at (at.at - at.others) at.invariant.group (omega (arith, u.if-at-last.true)), at.invariant.links, at.invariant.moved)
      | else-at-last+in_default u ↦
          let answer = rw at.invariant.moved at u.group_word.ensures in
          elim u.in_default.branch [
            | in_default-via-in_default v ↦
                rw (u.hearer-is, u.others-is, u.place-is) (
                  from_given_up _ _ _ _ at.at (at.at - at.others) at.invariant.group (omega (arith, u.if-at-last.false, at.invariant.group.within)) _ answer _
                      v.in_default.is,
                  at.invariant.links,
                  at.invariant.moved,
                )
            | in_default-via-in-Ok+in_default v ↦
                let told =
                from_told _ _ _ _ at.at (at.at - at.others) at.invariant.group (omega (arith, u.if-at-last.false, at.invariant.group.within)) _ answer _
                v.in_default.is in
                let other : v.in_default.field-0 ≢ From (number (get_or c.args.self.log.now at.at 0)) = λ e. search rules in
                absurd (other told)
          ]
      | else-at-last+in-Ok-From+in_default-to_word u ↦
          let here = u.loop-to.invariant.0 in
          rw (u.hearer-is, u.others-is, u.place-is) (
            to_given_up _ _ _ _ u.loop-to.at (u.loop-to.at - (at.others + 1)) here.group here.to_here _ u.to_word.ensures _ u.in_default-to_word.is,
            here.links,
            sym (lt-ltb c.args.start u.loop-to.at here.group.behind_from),
          )
    ]

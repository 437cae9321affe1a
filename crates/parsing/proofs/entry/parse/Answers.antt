use Rattle.std.proofs.Common.{refl, sym, ◌∙◌, length, arith}
use Rattle.std.proofs.lemmas.Result.{err_from_is_err_and}
use Rattle.parsing.proofs.Entries.{unclosed-refused, passed-inside, read-from, start-short, start-small, start-room, start-empty, start-end, start-gives}
use Rattle.parsing.proofs.entry.parse.Goals as goal

pub invariant_of-parser : goal.invariant_of-parser
invariant_of-parser c =
    let a = c.args in
    let t = a.text.now in
    let n = a.arena.now in
    let room = sym c.has_room.ensures ∙ c.if-not-has_room.false in
    record {
      short = start-short t n room;
      small = start-small t n room;
      inside = passed-inside a.whole t (length n) room c.blanks.result c.blanks.ensures c.in_ok-at.was;
      above = omega arith;
      room = omega (arith, start-room t n room c.in_ok-at.at);
      empty_run = start-empty t n room;
      end_run = start-end t n room;
    }

pub to_end-requires : goal.to_end-requires
to_end-requires c =
    let a = c.args in
    let room = sym c.has_room.ensures ∙ c.if-not-has_room.false in
    record { room = start-room a.text.now a.arena.now room c.in_ok-at.at }

pub returns-in_err-at : goal.returns-in_err-at
returns-in_err-at c =
    let a = c.args in
    let room = sym c.has_room.ensures ∙ c.if-not-has_room.false in
    let p = err_from_is_err_and c.from_residual.result c.from_residual.ensures.1 in
    rw (p.1, p.2)
    (record { length-kept = refl; gives = unclosed-refused a.whole a.text.now (length a.arena.now) room c.blanks.result c.blanks.ensures c.in_err-at.was })

pub returns : goal.returns
returns c =
    let a = c.args in
    let room = sym c.has_room.ensures ∙ c.if-not-has_room.false in
    let says = read-from a.whole a.text.now (length a.arena.now) room c.blanks.result c.blanks.ensures c.in_ok-at.was in
    start-gives _ a.arena.now refl a.whole c.to_end.new.self _ refl says (omega arith) (λ e. c.arena-1.given.1.1 e) _ c.to_end.ensures

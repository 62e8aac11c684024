use Rattle.std.proofs.Common.{sym, ◌∙◌, arith}
use Rattle.std.proofs.lemmas.Result.{err_from_is_err_and}
use Rattle.composer.proofs.Taking.{started, cuts, takes, within, turned, cut_off, joined_on, join_width, join_short}
use Rattle.composer.proofs.held_line.HeldLine.take_plain.Goals as goal

pub loop-piece-init : goal.loop-piece-init
loop-piece-init g c = started c.args.self.now c.args.b _ _ c.requires.room

pub send_piece-requires : goal.send_piece-requires
send_piece-requires g c =
    within c.args.self.now c.args.b c.requires.plain c.loop-piece.self _ _ _ _ c.loop-piece.invariant c.in-Some.piece c.in-Some.ensures

pub returns-in_err-send_piece : goal.returns-in_err-send_piece
returns-in_err-send_piece g c =
    let r = err_from_is_err_and c.from_residual.result c.from_residual.ensures.1 in
    rw (r.1, r.2) (cut_off c.args.self.now c.args.b c.requires.plain c.loop-piece.self _ _ _ _ c.loop-piece.invariant c.in-Some.piece c.in-Some.ensures _ _ _ c.in_err-send_piece.ensures)

pub drop_piece-requires : goal.drop_piece-requires
drop_piece-requires g c =
    let s = cuts c.args.self.now c.args.b c.requires.plain c.loop-piece.self _ _ _ _ c.loop-piece.invariant c.in-Some.piece c.in-Some.ensures in
    record {
      some = s.some;
      within = within c.args.self.now c.args.b c.requires.plain c.loop-piece.self _ _ _ _ c.loop-piece.invariant c.in-Some.piece c.in-Some.ensures;
      valid = s.valid;
      room = s.room;
    }

pub loop-piece-preserved : goal.loop-piece-preserved
loop-piece-preserved g c =
    let d = c.drop_piece.ensures in
    turned c.args.self.now c.args.b c.requires.plain c.loop-piece.self _ _ _ _ c.loop-piece.invariant c.in-Some.piece c.in-Some.ensures c.drop_piece.new.self _ _ c.in_ok-send_piece.ensures d.held d.margins d.lines d.less

pub join-requires : goal.join-requires
join-requires g c =
    let e = c.args.self.now in
    let l = c.loop-piece.self in
    let none = sym c.in_default.is ∙ c.piece.ensures in
    let inv = c.loop-piece.invariant in
    let less = inv.less in
    let few = c.requires.few in
    record {
      short = join_short e c.args.b c.requires.plain l _ _ _ _ inv none;
      few = omega arith;
      valid = (takes e c.args.b c.requires.plain l _ _ _ _ inv none).valid;
      width = join_width e c.args.b c.requires.plain l _ _ _ _ inv none;
    }

pub returns : goal.returns
returns g c =
    let none = sym c.in_default.is ∙ c.piece.ensures in
    let j = c.join.ensures in
    joined_on c.args.self.now c.args.b c.requires.plain c.loop-piece.self _ _ _ _ c.loop-piece.invariant none c.join.new.self j.held j.margins j.lines

use Rattle.std.proofs.Common.{◌≡◌, ◌++◌, replicate, ap, ◌∙◌, append_assoc}
use Rattle.std.proofs.lemmas.Result.{err_from_is_err_and}
use Rattle.folding.specs.Text.{Text, space}
use Rattle.folding.specs.WireLine.{stuffing, stuffed, quote_mark, crlf}
use Rattle.composer.proofs.Sends.{sends_more, sends_same, sends_cut}
use Rattle.composer.proofs.wire_line.WireLine.send.Goals as goal

-- the parts of a line, as they are sent
module _ (a b p s e : Text) where
  after_1 : a ++ (b ++ (p ++ (s ++ e))) ≡ (a ++ (b ++ (p ++ s))) ++ e
  after_1 = simp append_assoc

  after_2 : (a ++ b) ++ (p ++ (s ++ e)) ≡ (a ++ (b ++ (p ++ s))) ++ e
  after_2 = simp append_assoc

  after_3 : ((a ++ b) ++ p) ++ (s ++ e) ≡ (a ++ (b ++ (p ++ s))) ++ e
  after_3 = simp append_assoc

  after_4 : (((a ++ b) ++ p) ++ s) ++ e ≡ (a ++ (b ++ (p ++ s))) ++ e
  after_4 = simp append_assoc

pub returns-in_err-send_repeated : goal.returns-in_err-send_repeated
returns-in_err-send_repeated g c =
    let r = err_from_is_err_and c.from_residual.result c.from_residual.ensures.1 in
    let d = c.args.self.now.depth in
    let p = c.args.self.now.piece.now in
    let s = replicate c.args.self.now.spaces space in
    let b = stuffing (stuffed d (p ++ s)) in
    rw (r.1, r.2) (sends_cut _ _ _ _ _ _ _ _ (after_1 (replicate d quote_mark) b p s crlf) c.in_err-send_repeated.ensures)

pub returns-in_err-send_repeated-2 : goal.returns-in_err-send_repeated-2
returns-in_err-send_repeated-2 g c =
    let r = err_from_is_err_and c.from_residual-in_err-send_repeated-2.result c.from_residual-in_err-send_repeated-2.ensures.1 in
    let d = c.args.self.now.depth in
    let p = c.args.self.now.piece.now in
    let s = replicate c.args.self.now.spaces space in
    let a = replicate d quote_mark in
    let b = c.stuffing.ensures in
    let one = sends_more _ _ _ _ _ _ _ _ _ c.in_ok-send_repeated.ensures c.in_err-send_repeated-2.ensures in
    rw (r.1, r.2) (sends_cut _ _ _ _ _ _ _ _ (ap (λ (x : Text). (a ++ x) ++ (p ++ (s ++ crlf))) b ∙ after_2 a (stuffing (stuffed d (p ++ s))) p s crlf) one)

pub returns-in_err-send_bytes : goal.returns-in_err-send_bytes
returns-in_err-send_bytes g c =
    let r = err_from_is_err_and c.from_residual-in_err-send_bytes.result c.from_residual-in_err-send_bytes.ensures.1 in
    let d = c.args.self.now.depth in
    let p = c.args.self.now.piece.now in
    let s = replicate c.args.self.now.spaces space in
    let a = replicate d quote_mark in
    let b = c.stuffing.ensures in
    let one = sends_more _ _ _ _ _ _ _ _ _ c.in_ok-send_repeated.ensures c.in_ok-send_repeated-2.ensures in
    let two = sends_more _ _ _ _ _ _ _ _ _ one c.in_err-send_bytes.ensures in
    rw (r.1, r.2) (sends_cut _ _ _ _ _ _ _ _ (ap (λ (x : Text). ((a ++ x) ++ p) ++ (s ++ crlf)) b ∙ after_3 a (stuffing (stuffed d (p ++ s))) p s crlf) two)

pub returns-in_err-send_repeated-3 : goal.returns-in_err-send_repeated-3
returns-in_err-send_repeated-3 g c =
    let r = err_from_is_err_and c.from_residual-in_err-send_repeated-3.result c.from_residual-in_err-send_repeated-3.ensures.1 in
    let d = c.args.self.now.depth in
    let p = c.args.self.now.piece.now in
    let s = replicate c.args.self.now.spaces space in
    let a = replicate d quote_mark in
    let b = c.stuffing.ensures in
    let one = sends_more _ _ _ _ _ _ _ _ _ c.in_ok-send_repeated.ensures c.in_ok-send_repeated-2.ensures in
    let two = sends_more _ _ _ _ _ _ _ _ _ one c.in_ok-send_bytes.ensures in
    let three = sends_more _ _ _ _ _ _ _ _ _ two c.in_err-send_repeated-3.ensures in
    rw (r.1, r.2) (sends_cut _ _ _ _ _ _ _ _ (ap (λ (x : Text). (((a ++ x) ++ p) ++ s) ++ crlf) b ∙ after_4 a (stuffing (stuffed d (p ++ s))) p s crlf) three)

pub returns : goal.returns
returns g c =
    let d = c.args.self.now.depth in
    let p = c.args.self.now.piece.now in
    let s = replicate c.args.self.now.spaces space in
    let a = replicate d quote_mark in
    let b = c.stuffing.ensures in
    let one = sends_more _ _ _ _ _ _ _ _ _ c.in_ok-send_repeated.ensures c.in_ok-send_repeated-2.ensures in
    let two = sends_more _ _ _ _ _ _ _ _ _ one c.in_ok-send_bytes.ensures in
    let three = sends_more _ _ _ _ _ _ _ _ _ two c.in_ok-send_repeated-3.ensures in
    let four = sends_more _ _ _ _ _ _ _ _ _ three c.send_bytes-2.ensures in
    sends_same _ _ _ _ _ _ _ (ap (λ (x : Text). (((a ++ x) ++ p) ++ s) ++ crlf) b ∙ after_4 a (stuffing (stuffed d (p ++ s))) p s crlf) four

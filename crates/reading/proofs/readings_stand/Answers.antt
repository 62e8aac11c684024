use Rattle.reading.proofs.Runs.{bytes_in_turn}
use Rattle.reading.proofs.Kept.{contents_kept}
use Rattle.reading.proofs.Lines.{lines_read}
use Rattle.reading.proofs.Outcomes.{only_lines_read}
use Rattle.reading.proofs.Refusing.{refusals}
use Rattle.reading.proofs.InOrder.{handed_in_order}
use Rattle.reading.proofs.Signatures.{told_by_bytes}
use Rattle.reading.proofs.SentBack.{sent_reads_back}
use Rattle.reading.proofs.Apart.{sent_apart}
use Rattle.reading.proofs.Mails.{mails}
use Rattle.reading.proofs.readings_stand.Goals as goal

pub returns : goal.returns
returns c = record {
  in_turn = bytes_in_turn;
  kept = contents_kept;
  lines = lines_read;
  only = only_lines_read;
  order = handed_in_order;
  refusals = refusals;
  held = told_by_bytes;
  back = sent_reads_back;
  apart = sent_apart;
  mails = mails;
}

use Rattle.folding.proofs.Spaces.{trimmed_texts}
use Rattle.folding.proofs.Widths.{line_widths}
use Rattle.folding.proofs.Relation.{given_by_rules}
use Rattle.folding.proofs.Exceptions.{given_by_steps}
use Rattle.folding.proofs.Sound.{sound_foldings, short_lines, signatures_alone}
use Rattle.folding.proofs.Stays.{lines_stay, held_folds_on}
use Rattle.folding.proofs.Tracking.{start_tracks, bytes_track}
use Rattle.folding.proofs.Ending.{ends_settle, ends_track}
use Rattle.folding.proofs.Agreeing.{texts_agree}
use Rattle.folding.proofs.Refusing.{refused_bytes, refusals}
use Rattle.folding.proofs.Reading.{foldings_read_back}
use Rattle.folding.proofs.Mails.{mails}
use Rattle.folding.proofs.foldings_stand.Goals as goal

pub returns : goal.returns
returns c = record {
  trimmed = trimmed_texts;
  widths = line_widths;
  rules = given_by_rules;
  steps = given_by_steps;
  sound = sound_foldings;
  short = short_lines;
  signatures = signatures_alone;
  stay = lines_stay;
  held = held_folds_on;
  start = start_tracks;
  bytes = bytes_track;
  settle = ends_settle;
  end = ends_track;
  agree = texts_agree;
  refused = refused_bytes;
  refusals = refusals;
  back = foldings_read_back;
  mails = mails;
}

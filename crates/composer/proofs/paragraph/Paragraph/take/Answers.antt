use Rattle.composer.proofs.Paragraphs.{has_room}
use Rattle.composer.proofs.paragraph.Paragraph.take.Goals as goal

pub take-requires-clause-room : goal.take-requires-clause-room
take-requires-clause-room g c = has_room c.args.self.now.held c.args.self.now.bytes c.args.b c.requires

use Rattle.std.proofs.Common.{◌≡◌, map, drop}
use Rattle.std.specs.String.{string_bytes}
use Rattle.recorder_options.specs.Given.{InRange, given, nothing_given}
use Rattle.recorder_options.proofs.given.Given.by.Given as goal

abbrev pub invariant-loop-word : goal.invariant-loop-word
invariant-loop-word l = record {
  same : given l.given (map string_bytes (drop l.word-index l.words)) ≡ given nothing_given (map string_bytes l.words);
  blocks : InRange l.given;
}

-- Worked rows, evaluated.
use Rattle.std.proofs.Common.{refl}
use Rattle.sha2.specs.Sha256.{sha256, digest_bytes, hash_after, compress, rounds, schedule, first_words}
use Rattle.mu_model_completion.specs.Worked.{OneNodeCompletes, OneNodePulls, EqualVersionEnds, FirstBlock, ThreeComplete}
use Rattle.mu_model_completion.specs.WorkedAnswering.{BesideTheSilent}

pub one_node : OneNodeCompletes
unfolding sha256 digest_bytes hash_after compress rounds schedule first_words
one_node = record { ten = refl; nine = refl }

pub equal_version : EqualVersionEnds
equal_version = record { row = refl; ended = refl }

pub first_block : FirstBlock
first_block = record { push_begun = refl; push = refl; pull_begun = refl; pull = refl }

pub three : ThreeComplete
unfolding sha256 digest_bytes hash_after compress rounds schedule first_words
three = record { push = refl; push_before = refl; alone = refl; pull = refl }

pub one_pulls : OneNodePulls
unfolding sha256 digest_bytes hash_after compress rounds schedule first_words
one_pulls = record { ten = refl; nine = refl }

pub beside_the_silent : BesideTheSilent
unfolding sha256 digest_bytes hash_after compress rounds schedule first_words
beside_the_silent = record {
  in_time_push = (refl, (refl, (refl, (refl, (refl, (refl, (refl, (refl, (refl, (refl, (refl, (refl, (refl, (refl, tt))))))))))))));
  push = refl;
  in_time_pull = (refl, (refl, (refl, (refl, (refl, (refl, (refl, (refl, (refl, (refl, (refl, (refl, (refl, (refl, tt))))))))))))));
  pull = refl;
  too_late = refl;
}

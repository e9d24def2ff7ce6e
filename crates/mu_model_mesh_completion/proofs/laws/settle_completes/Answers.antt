use Rattle.mu_model_mesh_completion.proofs.Carried.{settle_is_carried}
use Rattle.mu_model_mesh_completion.proofs.Begins.{push_settles, push_settles_no_sooner, push_drops_nobody, pull_settles, pull_drops_nobody, Images, Aiming}
use Rattle.mu_model_mesh_completion.proofs.Happens.{Wire}
use Rattle.mu_model_mesh_completion.proofs.Members.{AllLaws}
use Rattle.mu_model_mesh_completion.proofs.laws.settle_completes.Goals as goal

pub returns : goal.returns
returns c =
    let all : AllLaws = record {
      nodes = record {
        images = c.images.ensures.metadata;
        requests = c.states_are_sound.ensures.requests;
        time = c.states_are_sound.ensures.time;
        phases = c.states_are_sound.ensures.phases;
        told = c.told_phase.ensures;
      };
      pieces = record {
        blocks_within = c.blocks-2.ensures.within;
        block_long = c.blocks-2.ensures.length;
        chunks_within = c.chunks.ensures.within;
        chunk_long = c.chunks.ensures.length;
      };
      plans = c.plans_stay.ensures;
      request_moments = c.moments_are_the_greatest.ensures.requests;
      time_moments = c.moments_are_the_greatest.ensures.time;
    } in
    let wire : Wire = record {
      grammar = c.grammar_holds.ensures;
      kept = c.opcodes_are_kept.ensures.one;
      canonical = c.canonical_is_read.ensures;
      requests = c.requests_are_read.ensures;
      no_answers = c.requests_are_no_answers.ensures.answers;
      replies = c.replies_are_read.ensures;
    } in
    let own : Images = record { fit = c.images.ensures.fit; metadata = c.images.ensures.metadata } in
    let aim : Aiming = record {
      laws = record { plans = c.plans_stay.ensures; lists = c.lists.ensures; sound = c.clients_are_sound.ensures.events };
      begins = c.clients_are_sound.ensures.begins;
    } in
    record {
      push = push_settles all wire own aim c.push_completes.ensures.completes;
      no_sooner = push_settles_no_sooner all wire own aim c.push_completes.ensures.takes_all;
      pull = pull_settles all wire own aim c.pull_completes.ensures;
      push_drops_nobody = push_drops_nobody all wire own aim c.nobody_is_dropped.ensures.push;
      pull_drops_nobody = pull_drops_nobody all wire own aim c.nobody_is_dropped.ensures.pull;
      carried = settle_is_carried c.settles_end.ensures.end;
    }

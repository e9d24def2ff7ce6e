use Rattle.std.proofs.Common.{◌∙◌, ap}
use Rattle.mu_model_client.specs.Client.{Client}
use Rattle.mu_rounds.proofs.Timing.{size_so, next_so, packets_so, is_back}
use Rattle.mu_rounds.proofs.rounds.Rounds.on_time.Goals as goal

pub send-requires-clause-size : goal.send-requires-clause-size
send-requires-clause-size g c =
    size_so c.args.self.now c.keep.new.self c.go_on.new.self _ (g.I.ImageBytes.image c.args.image.now) c.keep.ensures c.go_on.ensures.goes c.requires.size

pub returns-in-Ok-clause-next : goal.returns-in-Ok-clause-next
returns-in-Ok-clause-next g c =
    next_so c.args.self.now c.keep.new.self c.go_on.new.self c.send.new.self c.args.now c.keep.ensures c.go_on.ensures.goes c.in-Ok.ensures.sends

pub returns-in-Ok-clause-packets : goal.returns-in-Ok-clause-packets
returns-in-Ok-clause-packets g c =
    packets_so (g.I.ImageBytes.image c.args.image.now).octets c.args.self.now c.keep.new.self c.go_on.new.self c.args.now c.send.new.out.items c.keep.ensures c.go_on.ensures.goes c.in-Ok.ensures.packets

pub returns-in-Ok-clause-sending : goal.returns-in-Ok-clause-sending
returns-in-Ok-clause-sending g c = ap (λ (x : Client). x.sending) c.in-Ok.ensures.sends.client ∙ c.go_on.ensures.goes.sending ∙ c.keep.ensures.same.sending

pub returns-in-Ok-clause-purpose : goal.returns-in-Ok-clause-purpose
returns-in-Ok-clause-purpose g c = ap (λ (x : Client). x.purpose) c.in-Ok.ensures.sends.client ∙ c.go_on.ensures.goes.purpose ∙ c.keep.ensures.same.purpose

pub returns-in-Err-clause-before : goal.returns-in-Err-clause-before
returns-in-Err-clause-before g c =
    (is_back c.args.self.now c.keep.new.self c.go_on.new.self c.send.new.self c.go_back.new.self c.stood-stood.result _ c.requires.shape c.stood-stood.ensures c.keep.ensures c.go_on.ensures.goes c.go_on.ensures.left c.in-Err.ensures.before
    c.go_back.ensures).client

pub returns-in-Err-clause-shape : goal.returns-in-Err-clause-shape
returns-in-Err-clause-shape g c =
    (is_back c.args.self.now c.keep.new.self c.go_on.new.self c.send.new.self c.go_back.new.self c.stood-stood.result _ c.requires.shape c.stood-stood.ensures c.keep.ensures c.go_on.ensures.goes c.go_on.ensures.left c.in-Err.ensures.before
    c.go_back.ensures).shape

pub returns-in-Err-clause-sending : goal.returns-in-Err-clause-sending
returns-in-Err-clause-sending g c =
    ap (λ (x : Client). x.sending)
    (is_back c.args.self.now c.keep.new.self c.go_on.new.self c.send.new.self c.go_back.new.self c.stood-stood.result _ c.requires.shape c.stood-stood.ensures c.keep.ensures c.go_on.ensures.goes c.go_on.ensures.left c.in-Err.ensures.before
    c.go_back.ensures).client

pub returns-in-Err-clause-purpose : goal.returns-in-Err-clause-purpose
returns-in-Err-clause-purpose g c =
    ap (λ (x : Client). x.purpose)
    (is_back c.args.self.now c.keep.new.self c.go_on.new.self c.send.new.self c.go_back.new.self c.stood-stood.result _ c.requires.shape c.stood-stood.ensures c.keep.ensures c.go_on.ensures.goes c.go_on.ensures.left c.in-Err.ensures.before
    c.go_back.ensures).client

mod ServingLaws
mod TalkLaws
mod StepLaws
